-- Least choices build the first best schedule for the makespan, and for the delay.
use Rattle.std.proofs.Common.{◌≡◌, ℕ, suc, zero-le, Bool, nat_le, ◌+◌, ◌≤◌, List, [], ◌∷◌, length, Option, Some}
use Rattle.std.proofs.Common.{true, arith, refl, le_trans}
use Rattle.std.proofs.lemmas.Bool.{leb-true, le-leb}
use Rattle.cps_theory.specs.Separation.{Landing}
use Rattle.cps_theory.specs.Retiming.{IsFirstOpen}
use Rattle.cps_theory.specs.LandingTrail.{Landed, cost_of, latest_landing, ranks}
use Rattle.cps_theory.specs.Labels.{NeverCheaper, Pair}
use Rattle.cps_theory.specs.LegalPrefix.{Legal}
use Rattle.cps_theory.specs.Network.{Network}
use Rattle.cps_theory.specs.Feasible.{Feasible, RankedProblem, SoundProblem, earliest, next_from, second_and_cost}
use Rattle.cps_theory.specs.Feasible.{second_in}
use Rattle.cps_theory.specs.CompletingPairs.{AllLow, Completes, KeptCompleting}
use Rattle.cps_theory.specs.FirstBest.{BuiltByLeastChoices, FirstBest}
use Rattle.cps_theory.specs.laws.FirstBest.{built_first}

module _ (p : RankedProblem) (sound : SoundProblem p) (first : ℕ → ℕ → Option ℕ)
    (opens : IsFirstOpen (λ r u. p.is_open r u ≡ true) first) where
  pub low_true : (v : ℕ) (xs : List Landing) → AllLow (λ t. t ≤ v) xs → AllLow (λ t. nat_le t v ≡ true) xs
  low_true v [] a = tt
  low_true v (x ∷ xs) a = (le-leb x.1 v a.0, low_true v xs a.1)

  pub landed_low : (v : ℕ) (xs : List Landing) → Legal p.rules (ranks xs)
      → Landed (λ r u. p.is_open r u ≡ true) (next_from p) xs → (latest_landing xs).1 ≤ v → AllLow (λ t. t ≤ v) xs
  landed_low v (x ∷ (suc q, u) ∷ xs) l d le = (le, landed_low v ((suc q, u) ∷ xs) l.1 d.2 (omega arith))
  landed_low v xs l d le = grind arith

  pub low_last : (v : ℕ) (xs : List Landing) → AllLow (λ t. nat_le t v ≡ true) xs → (latest_landing xs).1 ≤ v
  low_last v xs a = grind (arith, zero-le, leb-true)

  pub no_cost : (xs : List Landing) → cost_of (λ r t. 0) xs ≡ 0
  no_cost [] = refl
  no_cost (x ∷ xs) = omega (arith, no_cost xs)

  pub all_low : (xs : List Landing) → AllLow (λ t. ◌≡◌ {A = Bool} true true) xs
  all_low [] = tt
  all_low (x ∷ xs) = (refl, all_low xs)

  module _ (W : Type 0) (node : List ℕ → W) (stage : W → ℕ) (staged : (rs : List ℕ) → stage (node rs) ≡ length rs)
      (Permitted : W → ℕ → Type 0) (push : W → ℕ → W) (newest : W
      → ℕ) (net : Network W (Legal p.rules) node Permitted push newest) (Keeps : W → Pair → Type 0) (v : ℕ) where
    -- for the makespan the seconds are at most v, and no landing costs
    pub built_first_makespan : ((rs : List ℕ) (r : ℕ) → Legal p.rules (r ∷ rs)
        → KeptCompleting (Completes W (λ x u. p.is_open x u ≡ true) (next_from p) (λ x u. 0)
        (Legal p.rules) node Permitted push newest (λ w. stage w ≡ p.rules.count) (λ t. nat_le t v ≡ true)
        (node (r ∷ rs))) (Keeps (node (r ∷ rs))))
        → ((u : ℕ → ℕ) → Feasible p u → v ≤ (second_and_cost (λ x t. 0) p.rules.count u).0)
        → (zs : List Landing) → Legal p.rules (ranks zs) → length (ranks zs) ≡ p.rules.count
        → BuiltByLeastChoices W first (next_from p) (λ x t. 0) node Permitted push newest Keeps 0 zs
        → FirstBest p (λ u. (second_and_cost (λ x t. 0) p.rules.count u).0) (second_in zs)
        × (earliest first (next_from p) (ranks zs) ≡ Some zs)
    built_first_makespan kept least zs legal whole built =
        built_first p sound _ opens _ (omega arith) W _ _ staged _ _ _ net
        _ (λ t u le h. le-leb t v (le_trans le (leb-true u v h))) _ kept 0 (λ q. q.0) v
        (λ xs l d w le. (low_true v xs (landed_low v xs l d le), omega (arith, no_cost xs)))
        (λ xs l d w a c. low_last v xs a) least zs legal whole built

    -- for the delay no second is too late, and the landings cost at most what the value leaves them
    pub built_first_delay : (cost : ℕ → ℕ → ℕ) → NeverCheaper cost → (base budget : ℕ) → v ≡ base + budget
        → ((rs : List ℕ) (r : ℕ) → Legal p.rules (r ∷ rs)
        → KeptCompleting (Completes W (λ x u. p.is_open x u ≡ true) (next_from p) cost
        (Legal p.rules) node Permitted push newest (λ w. stage w ≡ p.rules.count) (λ t. ◌≡◌ {A = Bool} true true)
        (node (r ∷ rs))) (Keeps (node (r ∷ rs))))
        → ((u : ℕ → ℕ) → Feasible p u → v ≤ base + (second_and_cost cost p.rules.count u).1)
        → (zs : List Landing) → Legal p.rules (ranks zs) → length (ranks zs) ≡ p.rules.count
        → BuiltByLeastChoices W first (next_from p) cost node Permitted push newest Keeps budget zs
        → FirstBest p (λ u. base + (second_and_cost cost p.rules.count u).1) (second_in zs)
        × (earliest first (next_from p) (ranks zs) ≡ Some zs)
    built_first_delay cost dearer base budget e kept least zs legal whole built =
        built_first p sound _ opens _ dearer W _ _ staged _ _ _ net _ (λ t u le h. refl) _ kept _ (λ q. base + q.1) v
        (λ xs l d w le. (all_low xs, omega arith)) (λ xs l d w a c. omega arith) least zs legal whole built
