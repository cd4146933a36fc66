-- States whose successor pairs are all covered bound every feasible schedule by the least value of the final ones, and
-- with no final state nothing is feasible.
use Rattle.std.proofs.Common.{◌≡◌, ℕ, ◌+◌, ◌≤◌, Bool, true, false, List, [], ◌∷◌}
use Rattle.std.proofs.Common.{Option, None, arith}
use Rattle.std.specs.Prelude.{nat_lt}
use Rattle.std.specs.List.{list_any}
use Rattle.std.proofs.lemmas.Bool.{eq-eqb, ltb-false, false≢true}
use Rattle.cps_theory.specs.Retiming.{IsFirstOpen}
use Rattle.cps_theory.specs.Labels.{InPairs, NeverCheaper, NoWorse, Pair}
use Rattle.cps_theory.specs.Patterns.{PatternNode, pattern_node}
use Rattle.cps_theory.specs.FirstFound.{element_from}
use Rattle.cps_theory.specs.CertificateClosure.{IsListed, first_missed, is_final, is_final_below, missed_from}
use Rattle.cps_theory.specs.Feasible.{Feasible, RankedProblem, SoundProblem, next_from, second_and_cost}
use Rattle.cps_theory.specs.laws.CertificateClosure.{closure_closed}
use Rattle.cps_theory.specs.laws.LeastObjective.{closed_certificate_optimal, closed_certificate_infeasible}

-- no pair of the list has a smaller value
none_below : (value : Pair → ℕ) (v : ℕ) (ps : List Pair) (q : Pair) → list_any (λ q. nat_lt (value q) v) ps ≡ false
    → InPairs q ps → v ≤ value q
none_below value v [] q e i = absurd i
none_below value v (x ∷ ps) q e i = grind (arith, ltb-false, none_below value v ps)

module _ {S : Type 0} (node_of : S → PatternNode) (pairs_of : S → List Pair) where
  -- where no state passes, the one that lists a pair does not
  pub listed_passes_not : (test : S → Bool) (i : ℕ) (ss : List S) → element_from test i ss ≡ None
      → (w : PatternNode) (q : Pair) → IsListed node_of pairs_of ss w q → (s : S) × (node_of s ≡ w)
      × InPairs q (pairs_of s) × (test s ≡ false)
  unfolding element_from
  listed_passes_not test i [] e w q l = absurd l
  listed_passes_not test i (s ∷ ss) e w q l = grind (arith, listed_passes_not test (i + 1) ss)

  pub final_not_below : (n : ℕ) (value : Pair → ℕ) (v : ℕ) (ss : List S)
      → element_from (is_final_below node_of pairs_of n value v) 1 ss ≡ None → (w : PatternNode) (q : Pair)
      → w.0 ≡ n → IsListed node_of pairs_of ss w q → v ≤ value q
  final_not_below n value v ss e w q at l = grind (arith, listed_passes_not, none_below, eq-eqb)

  pub none_final : (n : ℕ) (ss : List S) → element_from (is_final node_of pairs_of n) 1 ss ≡ None
      → (w : PatternNode) (q : Pair) → w.0 ≡ n → IsListed node_of pairs_of ss w q → ⊥
  none_final n ss e w q at l = grind (arith, listed_passes_not, false≢true, eq-eqb)

  -- ---- for a problem, the states of which miss no successor pair, whatever else they list
  module _ (p : RankedProblem) (cost : ℕ → ℕ → ℕ) (sound : SoundProblem p) (first : ℕ → ℕ
      → Option ℕ) (opens : IsFirstOpen (λ r u. p.is_open r u ≡ true) first) (dearer : NeverCheaper cost)
      (ss : List S) (from_start : first_missed node_of pairs_of p.rules first (next_from p) cost ss
      (pattern_node p.rules []) ((0, 0) ∷ []) ≡ None)
      (from_states : missed_from node_of pairs_of p.rules first (next_from p) cost ss 1 ss ≡ None) where
    pub accepted_optimal : (value : Pair → ℕ) → ((a b : Pair) → NoWorse a b → value a ≤ value b)
        → 1 ≤ p.rules.count → (v : ℕ) → element_from (is_final_below node_of pairs_of p.rules.count value v) 1 ss ≡ None
        → (t : ℕ → ℕ) → Feasible p t → v ≤ value (second_and_cost cost p.rules.count t)
    accepted_optimal value mono some v e t f =
        closed_certificate_optimal p _ sound _ mono _ opens dearer _
        (closure_closed _ _ _ _ _ _ ss from_start from_states) v
        (grind (arith, final_not_below)) t f

    pub accepted_infeasible : 1 ≤ p.rules.count → element_from (is_final node_of pairs_of p.rules.count) 1 ss ≡ None
        → (t : ℕ → ℕ) → Feasible p t → ⊥
    accepted_infeasible some e t f =
        closed_certificate_infeasible p _ sound _ (λ a b le. le.0) _ opens dearer _
        (closure_closed _ _ _ _ _ _ ss from_start from_states)
        (grind (arith, none_final)) t f
