use Rattle.std.proofs.lemmas.Grind.{common_steps}
use Rattle.std.proofs.Common.{rules}
use Rattle.std.proofs.Common.{◌≡◌, ◌<◌, ◌≤◌, length, arith, ap}
use Rattle.std.specs.Prelude.{slice_index}
use Rattle.landing_rules.specs.Rules.{last_second}
use Rattle.cps_network.specs.Pairs.{pair_at}
use Rattle.replan.specs.WindowNodes.{told_at}
use Rattle.replan.proofs.LeastPairLemmas.{days_set, less_label, other_label}
use Rattle.replan.proofs.least_pairs.lower_to_labels.Goals as goal

pub loop-i-preserved-then-label-least : goal.loop-i-preserved-then-label-least
loop-i-preserved-then-label-least c = search (rules, other_label)

pub loop-i-preserved : goal.loop-i-preserved
loop-i-preserved c =
    let n = c.args.nodes.now in
    let i = c.loop-i.i in
    let least = c.loop-i.least in
    let lt : i < length n.places = omega (arith, c.loop-i-test.true, ap (λ xs. length xs) c.places-places.ensures) in
    let same : told_at c.places-places.result.now i ≡ told_at n.places i = ap (λ xs. told_at xs i)
    c.places-places.ensures in
    let there = ap (λ m. (pair_at least m).0) same in
    let less : slice_index c.args.column.now i < (pair_at least (told_at n.places i)).0 = omega arith in
    let lowered = less_label c.args.column.now n c.requires.some i least c.loop-i.invariant.0 lt less in
    let days : (pair_at least (told_at c.places-places.result.now i)).0 ≤ last_second = c.loop-i.invariant.1
    (told_at _ i) in (
      rw same (rw c.label-label.ensures.value lowered),
      days_set least _ (c.label-label.result, 0) last_second c.loop-i.invariant.1 (omega arith),
    )

pub returns-clause-least : goal.returns-clause-least
returns-clause-least c = grind (arith, common_steps)
