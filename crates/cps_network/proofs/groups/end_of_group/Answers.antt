use Rattle.std.proofs.Common.{◌≡◌, ℕ, length, drop, arith, rules, tests}
use Rattle.std.specs.Bool.{⊤}
use Rattle.std.proofs.lemmas.Iterator.{first_from_Range}
use Rattle.cps_network.specs.Lists.{node_at}
use Rattle.cps_network.proofs.RangeTests.{all_before}
use Rattle.cps_network.proofs.groups.end_of_group.Goals as goal

pub returns-clause-same : goal.returns-clause-same
returns-clause-same g c =
    let Same : ℕ → Type 0 = λ i. drop 1 (node_at c.args.before.now i) ≡ drop 1 c.args.front.now in
    λ i low high. all_before Same c.args.from (length c.args.before.now) c.find.result
    (first_from_Range _ _ _ c.find.result (λ x. ⊤) Same c.find.ensures.ran (λ x q k. tt)
    (λ x q k. search (rules, tests)))
    i low (omega (arith, high, c.unwrap_or.ensures))
