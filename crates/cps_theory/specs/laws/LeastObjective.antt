-- The least value kept at the last stage is the least of all feasible schedules; a closed certificate bounds them all.
use Rattle.std.proofs.Common.{◌≡◌, ℕ, ◌≤◌, inl, List, [], ◌∷◌, length, Option, true, arith, refl, sym}
use Rattle.std.proofs.Common.{ap, ap₂, subst, ◌∙◌, le_refl, le_antisymm}
use Rattle.std.proofs.lemmas.Bool.{eq-eqb, ne_eqb}
use Rattle.cps_theory.specs.RankLists.{Distinct}
use Rattle.cps_theory.specs.Separation.{Landing}
use Rattle.cps_theory.specs.Retiming.{IsFirstOpen, NeverEarlier}
use Rattle.cps_theory.specs.LandingTrail.{Landed, latest_landing, pair_of, ranks}
use Rattle.cps_theory.specs.Labels.{NeverCheaper, NoWorse, Pair}
use Rattle.cps_theory.specs.LegalPrefix.{Legal}
use Rattle.cps_theory.specs.Patterns.{PatternNode, PatternPermits, pattern_newest, pattern_node, pattern_push}
use Rattle.cps_theory.specs.ClosedSets.{ClosedNodes}
use Rattle.cps_theory.specs.Feasible.{Feasible, LandsAllRanks, RankedProblem, SoundProblem, at_seconds, greatest}
use Rattle.cps_theory.specs.Feasible.{next_from, second_and_cost, second_in}
use Rattle.cps_theory.specs.laws.ClosedSets.{closed_landings_optimal, closed_landings_infeasible}
use Rattle.cps_theory.specs.laws.FeasibleOrder.{at_seconds_agree, ranks_at, lands_feasible, feasible_lands, cost_all}
use Rattle.cps_theory.specs.laws.FeasibleOrder.{last_greatest}
use Rattle.cps_theory.specs.laws.FrozenFront.{each_fits_distinct}
use Rattle.cps_theory.specs.laws.LandingOrder.{sorted}
use Rattle.cps_theory.specs.laws.LegalPrefix.{legal_each_fits, in_from_one}
use Rattle.cps_theory.specs.laws.RanksBelow.{at_most_greatest, greatest_least}

-- a later landing never makes the next one earlier
pub next_later : (p : RankedProblem) → NeverEarlier (next_from p)
next_later p = grind (arith, le_refl)

pub at_second_in : (xs : List Landing) → Distinct (ranks xs) → at_seconds (second_in xs) (ranks xs) ≡ xs
at_second_in [] d = refl
at_second_in (x ∷ xs) d = grind (arith, at_seconds_agree, ne_eqb, eq-eqb, at_second_in xs)

module _ (p : RankedProblem) (cost : ℕ → ℕ → ℕ) (sound : SoundProblem p) where
  -- the pair of a whole order is that of the map
  pub pair_all : (t : ℕ → ℕ) (rs : List ℕ) → LandsAllRanks p t rs
      → pair_of cost (at_seconds t rs) ≡ second_and_cost cost p.rules.count t
  pair_all t rs l = ap₂ (λ a b. (a, b)) (le_antisymm (low rs l) (greatest_least t _ _
      (last_greatest p t sound rs l))) (cost_all p t sound _ rs l)
    where
      low : (rs : List ℕ) → LandsAllRanks p t rs → (latest_landing (at_seconds t rs)).1 ≤ greatest t p.rules.count
      low [] l = omega arith
      low (r ∷ rs) l = at_most_greatest t _ r (in_from_one _ r (r ∷ rs) (legal_each_fits _ (r ∷ rs) l.legal) (inl refl))

  -- feasible seconds make a landed legal order of all flights, with their pair
  pub feasible_landing_trail : (t : ℕ → ℕ) → Feasible p t → (xs : List Landing) × Legal p.rules (ranks xs)
      × Landed (λ r u. p.is_open r u ≡ true) (next_from p) xs × (length (ranks xs) ≡ p.rules.count)
      × (pair_of cost xs ≡ second_and_cost cost p.rules.count t)
  feasible_landing_trail t f =
      let rs = sorted t p.rules.count in
      let l = feasible_lands p t sound f in grind (arith, ranks_at, pair_all)

  -- and such an order makes feasible seconds
  pub landing_trail_feasible : (xs : List Landing) → Legal p.rules (ranks xs)
      → Landed (λ r u. p.is_open r u ≡ true) (next_from p) xs → length (ranks xs) ≡ p.rules.count
      → Feasible p (second_in xs) × (pair_of cost xs ≡ second_and_cost cost p.rules.count (second_in xs))
  landing_trail_feasible xs legal landed whole =
      let e = at_second_in xs (each_fits_distinct _ _ (legal_each_fits _ _ legal)) in
      let l : LandsAllRanks p (second_in xs) (ranks xs) =
      record {
        legal = legal;
        whole = whole;
        landed = subst (Landed (λ r u. p.is_open r u ≡ true) (next_from p)) (sym e) landed;
      } in (lands_feasible p _ sound _ l, ap (pair_of cost) (sym e) ∙ pair_all _ _ l)

  module _ (value : Pair → ℕ) (mono : (a b : Pair) → NoWorse a b → value a ≤ value b) where
    -- the checker: what holds for a closed certificate holds for every feasible map
    module _ (first : ℕ → ℕ → Option ℕ) (opens : IsFirstOpen (λ r u. p.is_open r u ≡ true) first)
        (dearer : NeverCheaper cost) (Lists : PatternNode → Pair → Type 0)
        (c : ClosedNodes first (next_from p) cost (PatternPermits p.rules) (pattern_push p.rules) pattern_newest
        (pattern_node p.rules []) Lists) where
      ones : (a r : ℕ) → p.rules.before a r ≡ true → 1 ≤ a
      ones a r b = (sound.ranked a r b).0

      pub closed_certificate_optimal : (v : ℕ) → ((w : PatternNode) (q : Pair) → w.0 ≡ p.rules.count
          → Lists w q → v ≤ value q) → (t : ℕ → ℕ) → Feasible p t → v ≤ value (second_and_cost cost p.rules.count t)
      closed_certificate_optimal v final t f =
          let x = feasible_landing_trail t f in
          rw x.4 at (closed_landings_optimal _ _
          _ _ opens (next_later p) dearer _ ones _ c _ mono v final x.0 x.1 x.2 x.3)

      pub closed_certificate_infeasible : ((w : PatternNode) (q : Pair) → w.0 ≡ p.rules.count → Lists w q → ⊥)
          → (t : ℕ → ℕ) → Feasible p t → ⊥
      closed_certificate_infeasible none t f =
          let x = feasible_landing_trail t f in search (arith, closed_landings_infeasible, next_later, ones)
