-- Where the states miss no successor, no feasible schedule is below them, and where none is final, nothing is feasible.
use Rattle.std.proofs.lemmas.Grind.{common_steps}
use Rattle.std.proofs.Common.{rules, ◌≡◌, ℕ, ◌≤◌, inl, inr, true, List, [], ◌∷◌, None, subst, arith}
use Rattle.landing_rules.specs.Problem.{Problem}
use Rattle.cps_theory.specs.Separation.{Landing}
use Rattle.cps_theory.specs.Retiming.{NeverEarlier}
use Rattle.cps_theory.specs.LandingTrail.{Landed, latest_landing}
use Rattle.cps_theory.specs.Labels.{Pair}
use Rattle.cps_theory.specs.Feasible.{Feasible, next_from, second_and_cost}
use Rattle.cps_theory.specs.FirstFound.{element_from}
use Rattle.cps_theory.specs.Patterns.{PatternNode, PatternPermits, pattern_newest, pattern_node, pattern_push}
use Rattle.cps_theory.specs.ClosedSets.{ClosedNodes}
use Rattle.cps_theory.specs.CertificateClosure.{IsListedOrStart}
use Rattle.cps_theory.specs.laws.CertificateClosure.{closure_closed}
use Rattle.cps_theory.specs.laws.CertificateSoundness.{final_not_below, none_final}
use Rattle.cps_theory.specs.laws.ClosedSets.{closed_landings_optimal, closed_landings_infeasible}
use Rattle.cps_theory.specs.laws.LeastObjective.{feasible_landing_trail}
use Rattle.landing_joint.specs.RankedProblem.{ranked, first_at, cost_at, value_at}
use Rattle.landing_joint.specs.shared.FirstBestLists.{costs_rise, value_rises}
use Rattle.landing_joint.specs.shared.FirstOpen.{is_first_open}
use Rattle.cps_problem.specs.WellFormed.{IsWellFormed}
use Rattle.certificate.specs.States.{State}
use Rattle.cert_check.specs.Landings.{count}
use Rattle.cert_check.specs.States.{node_of, pairs_of, rules_of, ready, first_missed, missed_from, start_node, is_final}
use Rattle.cert_check.specs.States.{is_final_below}
use Rattle.cert_check.proofs.Sound.{sound_problem}

module _ (p : Problem) where
  abbrev opens : ℕ → ℕ → Type 0
  opens r u = (ranked p).is_open r u ≡ true

  ready_later : NeverEarlier (ready p)
  ready_later = search rules

  -- what a landing keeps, a successor keeps
  ready_low : (l u r : ℕ) → ready p l u r ≤ next_from (ranked p) l u r
  ready_low l u r = grind (arith, common_steps)

  landed_behind : (xs : List Landing) → Landed opens (next_from (ranked p)) xs → Landed opens (ready p) xs
  landed_behind [] h = tt
  landed_behind (x ∷ xs) h =
      let a = ready_low (latest_landing xs).0 (latest_landing xs).1 x.0 in (h.0, omega arith, landed_behind xs h.2)

  module _ (well : IsWellFormed p) (ss : List State)
      (from_start : first_missed p ss (start_node p) ((0, 0) ∷ []) ≡ None)
      (from_states : missed_from p ss 1 ss ≡ None) where
    abbrev lists : PatternNode → Pair → Type 0
    lists = IsListedOrStart node_of pairs_of (rules_of p) ss

    closed : ClosedNodes (first_at p) (ready p) (cost_at p) (PatternPermits (rules_of p))
        (pattern_push (rules_of p)) pattern_newest (pattern_node (rules_of p) []) lists
    closed = search (rules, closure_closed)

    ones : (a r : ℕ) → (rules_of p).before a r ≡ true → 1 ≤ a
    ones a r b = search rules

    not_start : (w : PatternNode) (q : Pair) → 1 ≤ count p → w.0 ≡ count p → (w ≡ pattern_node (rules_of p) [])
        × (q ≡ (0, 0)) → ⊥
    not_start w q some at s = search rules

    pub none_below : 1 ≤ count p → (v : ℕ) → element_from (is_final_below p v) 1 ss ≡ None
        → (t : ℕ → ℕ) → Feasible (ranked p) t → v ≤ value_at p (second_and_cost (cost_at p) (count p) t)
    none_below some v e t f =
        let x = feasible_landing_trail (ranked p) (cost_at p) (sound_problem p well) t f in
        subst (λ (q : Pair). v ≤ value_at p q) x.4
        (closed_landings_optimal opens (first_at p) (ready p) (cost_at p) (is_first_open p) ready_later
        (costs_rise p) (rules_of p) ones lists closed (value_at p) (value_rises p) v (λ w q at l. elim l [
          | inl s ↦ absurd (not_start w q some at s)
          | inr b ↦ final_not_below node_of pairs_of (count p) (value_at p) v ss e w q at b
        ]) x.0 x.1 (landed_behind x.0 x.2) x.3)

    pub none_at_all : 1 ≤ count p → element_from (is_final p) 1 ss ≡ None → (t : ℕ → ℕ) → Feasible (ranked p) t → ⊥
    none_at_all some e t f =
        let x = feasible_landing_trail (ranked p) (cost_at p) (sound_problem p well) t f in
        closed_landings_infeasible opens (first_at p) (ready p) (cost_at p) (is_first_open p) ready_later
        (costs_rise p) (rules_of p) ones lists closed
        (λ w q at l. elim l [
          | inl s ↦ absurd (not_start w q some at s)
          | inr b ↦ none_final node_of pairs_of (count p) ss e w q at b
        ]) x.0 x.1 (landed_behind x.0 x.2) x.3
