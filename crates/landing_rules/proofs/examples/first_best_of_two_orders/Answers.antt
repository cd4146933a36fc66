use Rattle.std.proofs.Common.{◌≡◌, ◌∷◌, [], ◌≤◌, ◌<◌, refl, arith, true, false, ℕ, Bool, List, cond, map, filter}
use Rattle.std.proofs.lemmas.Bool.{false≢true}
use Rattle.std.proofs.lemmas.Bool.Decides.{nat_tests}
use Rattle.wake_table.specs.Table.{separation}
use Rattle.landing_rules.specs.Examples.{a1, f1, closed_pair}
use Rattle.landing_rules.specs.FirstBest.{ComesNoLater, order_of}
use Rattle.landing_rules.specs.Events.{newcomer}
use Rattle.landing_rules.specs.Flights.{Active, Landing, landing, waiting}
use Rattle.landing_rules.specs.Rules.{rank, waits, IsBest, IsTight}
use Rattle.landing_rules.specs.Testing.{is_feasible}
use Rattle.landing_rules.proofs.OfTwo.{of_two, best_of_two, tight_of_two}
use Rattle.landing_rules.proofs.examples.first_best_of_two_orders.Goals as goal

best_first : IsBest closed_pair (1000 ∷ 1200 ∷ [])
unfolding separation
best_first = best_of_two _ _ refl refl (λ a b h. grind (arith, nat_tests))

seconds : (a b : ℕ) → is_feasible closed_pair (a ∷ b ∷ []) ≡ true → a < b → (1000 ≤ a) × (1200 ≤ b)
unfolding separation
seconds a b h l = grind (arith, nat_tests)

tight_first : IsTight closed_pair (1000 ∷ 1200 ∷ [])
unfolding separation
tight_first = tight_of_two _ _ refl refl (λ a b h o. let later : a < b =
    (o 0 1 (omega arith) (omega arith)).0 (omega arith) in let s = seconds a b h later in (s.0, (s.1, tt)))

-- the order of ranks by whether rank 2 lands first
abbrev order_by : ℕ → ℕ → Bool → List ℕ
order_by a b c =
    let f = landing (newcomer (a1 (1000, 2000))) a in
    let g = landing (newcomer (f1 (1010, 2000))) b in
    map (λ (x : Landing). rank (map (λ (y : Active). y.flight) (waiting closed_pair)) x.flight)
    (filter waits (cond c (g ∷ f ∷ []) (f ∷ g ∷ [])))

-- whichever lands first, rank 1 first is no later
either : (a b : ℕ) → ComesNoLater (1 ∷ 2 ∷ []) (order_of closed_pair (a ∷ b ∷ []))
either a b = by _
  where
    by : (c : Bool) → ComesNoLater (1 ∷ 2 ∷ []) (order_by a b c)
    by true = refl
    by false = refl

pub returns-clause-first : goal.returns-clause-first
returns-clause-first c = record {
  best = best_first;
  tight = tight_first;
  first = λ u bu tu. of_two (λ u. ComesNoLater (1 ∷ 2 ∷ []) (order_of closed_pair u)) either u bu.feasible.0;
}

pub returns-clause-best : goal.returns-clause-best
unfolding separation
returns-clause-best c = best_of_two _ _ refl refl (λ a b h. grind (arith, nat_tests))

pub returns-clause-not_first : goal.returns-clause-not_first
returns-clause-not_first c = λ f. false≢true (f.first (1000 ∷ 1200 ∷ []) best_first tight_first)
