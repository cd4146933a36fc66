use Rattle.std.proofs.Common.{◌≡◌, ℕ, ◌+◌, length, arith, rules, tests, ap, inl, inr}
use Rattle.std.specs.Bool.{⊤}
use Rattle.std.proofs.lemmas.Bool.{cases_eq}
use Rattle.std.proofs.lemmas.Iterator.{first_from_Range}
use Rattle.cps_network.specs.Extended.{group_at}
use Rattle.cps_network.proofs.RangeTests.{all_before}
use Rattle.cps_network.proofs.gather.end_of_block.Goals as goal

pub returns-clause-level : goal.returns-clause-level
returns-clause-level c =
    let Same : ℕ → Type 0 = λ i. (group_at c.args.groups.now i).order
    ≡ (group_at c.args.groups.now c.args.from).order in
    λ i low high. elim (cases_eq i c.args.from) [
      | inl same ↦ ap (λ (m : ℕ). (group_at c.args.groups.now m).order) same
      | inr other ↦ all_before Same (c.args.from + 1) (length c.args.groups.now) c.find.result
          (first_from_Range _ _ _ c.find.result (λ x. ⊤) Same c.find.ensures.ran (λ x q k. tt)
          (λ x q k. search (rules, tests)))
          i (omega (arith, low, other)) (omega (arith, high, c.unwrap_or.ensures))
    ]
