-- What may come next at a node passes the test of the checker.
use Rattle.std.proofs.Common.{◌≡◌, ℕ, ◌≤◌, true, false, not, arith}
use Rattle.std.proofs.lemmas.Bool.{cases_lt, le-leb, leb-true, eq-eqb, or_cases, or_left, or_right, and_from}
use Rattle.cps_theory.specs.LegalPrefix.{MayCome, OrderRules}
use Rattle.cps_theory.specs.Patterns.{IsPlacedByPattern, PatternNode, PatternPermits}
use Rattle.cps_theory.specs.CertificateClosure.{is_missing_predecessor, is_placed_by_pattern, leaves_none_due}
use Rattle.cps_theory.specs.CertificateClosure.{permits_next}
use Rattle.cps_theory.specs.laws.FirstFound.{none_from}

module _ (g : OrderRules) where
  placed_is : (w : PatternNode) (x : ℕ) → IsPlacedByPattern g w x → is_placed_by_pattern g.most w x ≡ true
  unfolding is_placed_by_pattern
  placed_is w x h = grind (arith, or_left, le-leb, or_right)

  is_digits_placed : (w : PatternNode) (x : ℕ) → is_placed_by_pattern g.most w x ≡ true → IsPlacedByPattern g w x
  unfolding is_placed_by_pattern
  is_digits_placed w x e = grind (arith, or_cases, leb-true)

  not_placed : (w : PatternNode) (x : ℕ) → (IsPlacedByPattern g w x → ⊥) → not (is_placed_by_pattern g.most w x) ≡ true
  not_placed w x no-one = grind (arith, not, is_digits_placed)

  due_is : (w : PatternNode) (r : ℕ) → MayCome g w.0 (IsPlacedByPattern g w) r → leaves_none_due g w r ≡ true
  due_is w r m = grind (arith, cases_lt, or_right, or_left, eq-eqb, placed_is, le-leb)

  preds_is : (w : PatternNode) (r : ℕ) → MayCome g w.0 (IsPlacedByPattern g w) r → (a : ℕ)
      → 1 ≤ a → is_missing_predecessor g w r a ≡ false
  preds_is w r m a one = grind (arith, not, placed_is)

  -- what may come next passes the test
  pub permits_is : (w : PatternNode) (r : ℕ) → PatternPermits g w r → permits_next g w r ≡ true
  unfolding permits_next
  permits_is w r m = search (le-leb, and_from, not_placed, due_is, none_from, preds_is)
