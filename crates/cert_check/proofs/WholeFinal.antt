-- No state of the last stage contradicts what a whole certificate claims: each of its pairs is that of a feasible list.
use Rattle.std.proofs.Common.{rules, ◌≡◌, ℕ, Bool, true, false, ◌&&◌, eqb, ltb, List, None, refl, ap, ◌∙◌, arith}
use Rattle.std.specs.Prelude.{All}
use Rattle.std.specs.List.{list_any}
use Rattle.std.proofs.lemmas.Bool.{eqb-true, ne_eqb, le-ltb}
use Rattle.landing_rules.specs.Flights.{Schedule}
use Rattle.landing_rules.specs.Problem.{Problem, IsFeasibleList, list_objective}
use Rattle.cps_theory.specs.RankLists.{IsRank}
use Rattle.cps_theory.specs.Feasible.{Feasible, second_and_cost, second_in}
use Rattle.cps_theory.specs.Labels.{Pair}
use Rattle.cps_theory.specs.Patterns.{PatternNode}
use Rattle.cps_theory.specs.laws.LeastObjective.{landing_trail_feasible}
use Rattle.landing_joint.specs.RankedProblem.{ranked, cost_at, value_at}
use Rattle.landing_joint.specs.shared.RankedLists.{feasible_agree, feasible_list}
use Rattle.landing_joint.specs.shared.BestLists.{list_value}
use Rattle.landing_joint.specs.shared.FirstBestLists.{list_of_at, list_of_long, value_agree}
use Rattle.cps_problem.specs.WellFormed.{IsWellFormed}
use Rattle.certificate.specs.States.{State}
use Rattle.certificate.specs.declared.certificate.Claim.TheVariants as claim
use Rattle.cert_check.specs.Landings.{Landings, count}
use Rattle.cert_check.specs.Meaning.{IsShownOptimal, NothingIsFeasible}
use Rattle.cert_check.specs.States.{node_of, is_final, is_final_below, final_failure}
use Rattle.cert_check.specs.Whole.{Attains, IsWholeState}
use Rattle.cert_check.proofs.Sound.{sound_problem}
use Rattle.cert_check.proofs.WholeStates.{any_not, none_passes}

module _ (p : Problem) (well : IsWellFormed p) where
  -- a feasible map is a feasible list of its objective
  map_listed : (t : ℕ → ℕ) → Feasible (ranked p) t → (u : Schedule) × IsFeasibleList p u
      × (list_objective p u ≡ value_at p (second_and_cost (cost_at p) (count p) t))
  map_listed t f =
      let long = list_of_long (count p) t in search
      (rules, feasible_list, feasible_agree, list_of_at, list_value, value_agree)

  -- so a pair that a node of the last stage attains is that of a feasible list
  pub list_from : (w : PatternNode) (q : Pair) → Attains p w q → w.0 ≡ count p → (u : Schedule)
      × IsFeasibleList p u × (list_objective p u ≡ value_at p q)
  list_from w q a at =
      let xs = a.landings in
      let f = landing_trail_feasible (ranked p) (cost_at p) (sound_problem p well) xs a.legal a.landed
      (ap (λ (z : PatternNode). z.0) a.at ∙ at) in
      let u = map_listed (second_in xs) f.0 in search rules

  -- ---- an optimum is claimed

  not_below : (v : ℕ) (ls : Landings) → IsShownOptimal p ls v → (s : State) → IsWholeState p s
      → is_final_below p v s ≡ false
  not_below v ls shown s h = go (eqb s.stage (count p)) refl
    where
      go : (b : Bool) → eqb s.stage (count p) ≡ b → b && list_any (λ q. ltb (value_at p q) v) s.pairs ≡ false
      go false e = refl
      go true e = any_not (λ q. ltb (value_at p q) v) s.pairs (λ q i.
          let u = list_from (node_of s) q ((h.undominated q).0 i).attained (eqb-true s.stage (count p) e) in
          let least = shown.best.least u.0 u.1 in
          let is = shown.value in
          let value = u.2 in
          le-ltb (value_at p q) v (omega arith))

  pub optimal_final : (v : ℕ) (ls : Landings) → IsShownOptimal p ls v → (ss : List State) → All (IsWholeState p) ss
      → final_failure p (claim.Optimal v) ss ≡ None
  optimal_final v ls shown ss h = search (rules, none_passes, not_below)

  -- ---- nothing is feasible

  not_final : NothingIsFeasible p → (s : State) → IsWholeState p s → is_final p s ≡ false
  not_final none s h = ne_eqb _ _ (λ at. let u = list_from (node_of s) h.landable.0 h.landable.1 at in none u.0 u.1)

  -- with no flight the list of none is feasible
  some_flight : NothingIsFeasible p → count p ≡ 0 → ⊥
  some_flight none zero' = let u = map_listed (λ r. 0) no_rank in none u.0 u.1
    where
      out : {A : Type 0} (r : ℕ) → IsRank (count p) r → A
      out r q = search rules

      no_rank : Feasible (ranked p) (λ r. 0)
      no_rank = search rules

  pub infeasible_final : NothingIsFeasible p → (ss : List State) → All (IsWholeState p) ss
      → final_failure p claim.Infeasible ss ≡ None
  infeasible_final none ss h = simp (ne_eqb, some_flight, none_passes, not_final)
