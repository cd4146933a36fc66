use Rattle.std.proofs.lemmas.Grind.{common_steps}
use Rattle.std.proofs.Common.{◌≡◌, ◌<◌, length, arith, ap, ap₂, ◌∙◌}
use Rattle.landing_rules.specs.Rules.{last_second}
use Rattle.cps_network.specs.Pairs.{list_at, pair_at}
use Rattle.replan.specs.WindowNodes.{extremes, lesser, told_at}
use Rattle.replan.proofs.LeastPairLemmas.{days_set, one_least}
use Rattle.replan.proofs.least_pairs.lower_to_pairs.Goals as goal

pub loop-i-preserved : goal.loop-i-preserved
loop-i-preserved c =
    let n = c.args.nodes.now in
    let i = c.loop-i.i in
    let least = c.loop-i.least in
    let long = ap (λ xs. length xs) c.places-places.ensures in
    let lt : i < length n.places = omega arith in
    let within = c.requires.some.within i lt in
    let place = told_at n.places i in
    let same : told_at c.places-places.result.now i ≡ place = ap (λ xs. told_at xs i) c.places-places.ensures in
    let all = c.loop-i.invariant.0.one_each in
    let value : c.lesser.result ≡ lesser (pair_at least place) (extremes (list_at c.args.labels.now.lists i)) =
    c.lesser.ensures
    ∙ ap₂ lesser (ap (pair_at least) same) c.extremes.ensures.value in
    let more = one_least c.args.labels.now.lists n.places n.firsts i least c.loop-i.invariant.0 lt within in
    let is = ap (λ q. q.0) value in
    let days = c.loop-i.invariant.1 place in
    (rw same (rw value more), days_set least _ _ last_second c.loop-i.invariant.1 (omega arith))

pub returns-clause-least : goal.returns-clause-least
returns-clause-least c = grind (arith, common_steps)
