use Rattle.std.proofs.Common.{◌≡◌, ◌∷◌, [], ◌≤◌, ◌<◌, refl, arith, true, ℕ}
use Rattle.std.proofs.lemmas.Bool.Decides.{nat_tests}
use Rattle.wake_table.specs.Table.{separation}
use Rattle.landing_rules.specs.Examples.{pair, pair_at_900}
use Rattle.landing_rules.specs.Testing.{is_feasible}
use Rattle.landing_rules.proofs.OfTwo.{best_of_two, tight_of_two, none_of_two}
use Rattle.landing_rules.proofs.examples.known_runs_are_runs.Goals as goal

seconds : (a b : ℕ) → is_feasible (pair 1) (a ∷ b ∷ []) ≡ true → b ≤ a → (1070 ≤ a) × (1010 ≤ b)
unfolding separation
seconds a b h l = grind (arith, nat_tests)

seconds_at_900 : (a b : ℕ) → is_feasible pair_at_900 (a ∷ b ∷ []) ≡ true → (1070 ≤ a) × (1010 ≤ b)
unfolding separation
seconds_at_900 a b h = grind (arith, nat_tests)

pub returns-clause-opened : goal.returns-clause-opened
unfolding separation
returns-clause-opened c = (
  best_of_two _ _ refl refl (λ a b h. grind (arith, nat_tests)),
  tight_of_two _ _ refl refl (λ a b h o. let later : b < a =
      (o 1 0 (omega arith) (omega arith)).0 (omega arith) in let s = seconds a b h (omega arith) in (s.0, (s.1, tt))),
)

pub returns-clause-run : goal.returns-clause-run
unfolding separation
returns-clause-run c = (
  record {
    answered = refl;
    effect = record {
      changed = refl;
      shown = (
        best_of_two pair_at_900 (1070 ∷ 1010 ∷ []) refl refl (λ a b h. omega (arith, seconds_at_900 a b h)),
        tight_of_two pair_at_900 (1070 ∷ 1010 ∷ []) refl refl (λ a b h o. let s =
            seconds_at_900 a b h in (s.0, (s.1, tt))),
      );
    };
  },
  tt,
)

pub returns-clause-none : goal.returns-clause-none
unfolding separation
returns-clause-none c = none_of_two _ refl (λ a b h. grind (arith, nat_tests))
