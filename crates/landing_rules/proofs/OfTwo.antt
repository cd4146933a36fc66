-- From the test of each pair or triple of seconds to the best schedule.
use Rattle.std.proofs.Common.{◌≡◌, ℕ, ◌≤◌, true, [], ◌∷◌, length, ◌∙◌}
use Rattle.landing_rules.specs.Flights.{Situation, Schedule}
use Rattle.std.specs.List.{AllZip}
use Rattle.landing_rules.specs.Rules.{IsFeasible, IsBest, IsTight, HaveSameOrder, objective}
use Rattle.landing_rules.specs.Testing.{is_feasible}
use Rattle.landing_rules.specs.shared.Tests.{is_feasible-Decides}

-- what holds of each list of two holds of each list that is as long as the flights are
pub of_two : (P : Schedule → Type 0) → ((a b : ℕ) → P (a ∷ b ∷ [])) → (u : Schedule) → length u ≡ 2 → P u
of_two P h (a ∷ b ∷ []) e = h a b
of_two P h u e = cc

pub best_of_two : (s : Situation) (t : Schedule) → length s.active ≡ 2 → is_feasible s t ≡ true →
    ((a b : ℕ) → is_feasible s (a ∷ b ∷ []) ≡ true → objective s t ≤ objective s (a ∷ b ∷ [])) → IsBest s t
best_of_two s t n f h = record {
  feasible = (is_feasible-Decides s t).0 f;
  least = λ u feasible. of_two (λ u. IsFeasible s u → objective s t ≤ objective s u)
      (λ a b g. h a b ((is_feasible-Decides s (a ∷ b ∷ [])).1 g)) u (feasible.0 ∙ n) feasible;
}

pub tight_of_two : (s : Situation) (t : Schedule) → length s.active ≡ 2 → is_feasible s t ≡ true →
    ((a b : ℕ) → is_feasible s (a ∷ b ∷ []) ≡ true → HaveSameOrder t (a ∷ b ∷ [])
    → AllZip (λ x y. x ≤ y) t (a ∷ b ∷ [])) → IsTight s t
tight_of_two s t n f h = record {
  feasible = (is_feasible-Decides s t).0 f;
  earliest = λ u feasible order. of_two (λ u. IsFeasible s u → HaveSameOrder t u → AllZip (λ x y. x ≤ y) t u)
      (λ a b g o. h a b ((is_feasible-Decides s (a ∷ b ∷ [])).1 g) o) u (feasible.0 ∙ n) feasible order;
}

pub none_of_two : (s : Situation) → length s.active ≡ 2 → ((a b : ℕ) → is_feasible s (a ∷ b ∷ []) ≡ true → ⊥)
    → (u : Schedule) → IsFeasible s u → ⊥
none_of_two s n h u feasible = of_two (λ u. IsFeasible s u
    → ⊥) (λ a b g. h a b ((is_feasible-Decides s _).1 g)) u (feasible.0 ∙ n) feasible
