-- The first count above a limit, by its place.
use Rattle.std.proofs.Common.{◌≡◌, ℕ, ◌+◌, inl, inr, List, [], ◌∷◌, Option, refl, ap, ◌∙◌}
use Rattle.std.specs.Prelude.{nat_lt, position, option_map}
use Rattle.std.specs.List.{position_from}
use Rattle.std.proofs.lemmas.Bool.{cases_Bool}
use Rattle.std.proofs.lemmas.Iterator.Adapters.{position_from-zero}
use Rattle.arrivals.specs.declared.passed_list.PassedCount.{PassedCount}
use Rattle.whatif.specs.Outcomes.{first_above}

module _ (k : ℕ) where
  from_place : (i : ℕ) (ps : List PassedCount)
      → option_map (λ j. j + 1) (position_from (λ (p : PassedCount). nat_lt k p.count) i ps) ≡ first_above k (i + 1) ps
  from_place i [] = refl
  from_place i (p ∷ ps) = elim (cases_Bool (nat_lt k p.count)) [
    | inl above ↦ rw above refl
    | inr below ↦ rw below (from_place (i + 1) ps)
  ]

  pub above_place : (ps : List PassedCount) (at : Option ℕ) → at ≡ position (λ (p : PassedCount). nat_lt k p.count) ps
      → option_map (λ j. j + 1) at ≡ first_above k 1 ps
  above_place ps at e = ap (option_map (λ j. j + 1)) (e ∙ position_from-zero (λ (p : PassedCount). nat_lt k p.count) ps)
      ∙ from_place 0 ps
