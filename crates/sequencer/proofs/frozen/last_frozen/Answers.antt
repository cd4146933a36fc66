use Rattle.std.proofs.Common.{◌≡◌, ◌-◌, suc, length, take, ap, ◌∙◌, arith}
use Rattle.std.proofs.lemmas.List.{length-map, length-take}
use Rattle.landing_rules.specs.Text.{ShownLanding}
use Rattle.plan_file.specs.Shown.{shown_of}
use Rattle.sequencer.specs.Frozen.{frozen_shown, frozen_there, latest}
use Rattle.sequencer.proofs.FrozenLeft.{last_is}
use Rattle.sequencer.proofs.LastFrozen.{front_last}
use Rattle.sequencer.proofs.frozen.last_frozen.Goals as goal

pub line-requires : goal.line-requires
line-requires c =
    let s = c.args.situation.now in
    let ls = c.in-Some.plan.now.landings in
    let e = ap (length {A = ShownLanding}) (c.requires.front c.in-Some.plan c.in-Some.is) in
    let l = length-map (take (length (frozen_shown s)) ls) frozen_there in
    let m = length-take (length (frozen_shown s)) ls in
    let n = c.requires.count in
    omega (arith, c.if-count-gt0.true)

pub latest_at-requires-clause-second : goal.latest_at-requires-clause-second
latest_at-requires-clause-second c =
    let n = c.requires.count in
    let some = c.if-count-gt0.true in
    let long : suc (c.args.count - 1) ≡ length (frozen_shown c.args.situation.now) = omega arith in
    front_last c.args.situation.now c.in-Some.plan.now (c.args.count - 1) (shown_of c.line.result)
    (c.requires.front c.in-Some.plan c.in-Some.is) long c.line.ensures

pub returns-in_default : goal.returns-in_default
returns-in_default c = c.latest.ensures ∙ ap latest c.flights.ensures ∙ last_is c.args.situation.now.active
