use Rattle.std.proofs.Common.{ℕ, length, arith, rules, tests}
use Rattle.std.specs.Bool.{⊤}
use Rattle.std.proofs.lemmas.Iterator.{first_from_Range}
use Rattle.cps_nodes.specs.Leads.{TailMeetsHead}
use Rattle.cps_network.specs.Lists.{node_at}
use Rattle.cps_network.proofs.RangeTests.{all_before}
use Rattle.cps_network.proofs.source_range.end_from.Goals as goal

pub returns-clause-leads : goal.returns-clause-leads
returns-clause-leads g c =
    let Leads : ℕ → Type 0 = λ i. TailMeetsHead (node_at c.args.before.now i) c.args.node.now in
    λ i low high. all_before Leads c.args.from (length c.args.before.now) c.find.result
    (first_from_Range _ _ _ c.find.result (λ x. ⊤) Leads c.find.ensures.ran (λ x q k. tt)
    (λ x q k. search (rules, tests)))
    i low (omega (arith, high, c.unwrap_or.ensures))
