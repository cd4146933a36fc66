use Rattle.std.proofs.Common.{rules}
use Rattle.sequencer.proofs.Joined.{placed_count, joined_more, placed_at}
use Rattle.std.proofs.Common.{◌≡◌, ℕ, ◌-◌, length, slice_set, take, ap, ◌∙◌, arith}
use Rattle.std.proofs.lemmas.List.{length-map, take_all}
use Rattle.std.proofs.lemmas.Option.{slice_get_within}
use Rattle.landing_rules.specs.Problem.{joined}
use Rattle.landing_joint.specs.Numbered.{nobody}
use Rattle.sequencer.proofs.seconds.joined_seconds.Goals as goal

pub overflow_cast-index : goal.overflow_cast-index
overflow_cast-index c = search (rules, placed_count)

pub overflow_add-index : goal.overflow_add-index
overflow_add-index c = search (rules, placed_count)

pub second-requires : goal.second-requires
second-requires c = search (rules, placed_count)

pub index_mut-requires : goal.index_mut-requires
index_mut-requires c =
    let s = c.args.situation.now in
    let i = c.loop-index.index in
    let places = c.args.places.now in
    let t = take i c.args.schedule.now in
    let within = slice_get_within s.active _ _
    (placed_at s c.requires.sound.callsigns places c.requires.places i nobody c.loop-index-test.true) in
    let long : length c.loop-index.seconds.items ≡ length s.active =
    ap (length {A = ℕ}) c.loop-index.invariant ∙ length-map s.active _ in
    omega (arith, c.loop-index.seconds.ok.0)

pub loop-index-preserved : goal.loop-index-preserved
loop-index-preserved c = search (rules, slice_set, joined_more)

pub returns : goal.returns
returns c = search (rules, placed_count, joined, take_all)
