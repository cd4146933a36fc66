-- An order whose flights have all landed as early as they can: these seconds land it, and none do earlier.
use Rattle.std.proofs.Common.{◌≡◌, ℕ, suc, ◌-◌, ◌≤◌, true, List, length, get_or, reverse, Some, None, sym, ap, subst}
use Rattle.std.proofs.Common.{◌∙◌, arith}
use Rattle.std.specs.List.{AllZip}
use Rattle.landing_rules.specs.Flights.{Schedule}
use Rattle.landing_rules.specs.Problem.{Problem}
use Rattle.wake_table.specs.Table.{IsWakeTable}
use Rattle.cps_theory.specs.Separation.{Landing}
use Rattle.cps_theory.specs.RankLists.{of_rank}
use Rattle.cps_theory.specs.Feasible.{earliest, next_from, at_seconds}
use Rattle.cps_theory.specs.laws.OptionSteps.{some_same}
use Rattle.cps_theory.specs.laws.FeasibleOrder.{ranks_at, at_seconds_agree}
use Rattle.cps_theory.specs.laws.EarliestLandings.{earliest_lands, earliest_least, NoLater}
use Rattle.cps_theory.specs.laws.LeastObjective.{next_later}
use Rattle.cps_theory.specs.laws.TightMaps.{no_later_at}
use Rattle.landing_joint.specs.RankedProblem.{ranked, first_at}
use Rattle.landing_joint.specs.shared.FirstOpen.{is_first_open}
use Rattle.landing_joint.specs.shared.BestLists.{zip_of}
use Rattle.landing_joint.specs.shared.FirstBestLists.{second_is}
use Rattle.extract_plan.specs.Orders.{IsWholeOrder, LandsInOrder, EarliestInOrder}
use Rattle.extract_plan.specs.shared.LandingOrder.{by_seconds, order_lands, trail_lands, in_order, has_ranks}

module _ (p : Problem) (order : List ℕ) (w : IsWholeOrder (length p.flights) order) where
  abbrev Retimed : Schedule → Type 0
  Retimed t = earliest (first_at p) (next_from (ranked p)) (reverse order) ≡ Some
      (at_seconds (λ r. get_or t (r - 1) 0) (reverse order))

  pub is_earliest : (t : Schedule) → Retimed t → EarliestInOrder p order t
  is_earliest t e = e ∙ ap Some (at_seconds_agree (λ r. get_or t (r - 1) 0) _ _
      (λ r i. second_is t r (in_order p order w r i).0))

  pub retimed_lands : IsWakeTable p.table → (t : Schedule) → length t ≡ length p.flights → Retimed t
      → LandsInOrder p order t
  retimed_lands table t long e =
      trail_lands p table order t w long (earliest_lands (λ r u. (ranked p).is_open r u ≡ true)
      (first_at p) (next_from (ranked p)) (is_first_open p) (reverse order) (by_seconds p t (reverse order))
      (is_earliest t e)).0

  any_lands : (u : Schedule) → LandsInOrder p order u → (xs : List Landing)
      × (earliest (first_at p) (next_from (ranked p)) (reverse order) ≡ Some xs)
      × NoLater xs (by_seconds p u (reverse order))
  any_lands u l =
      let least = earliest_least (λ r u. (ranked p).is_open r u ≡ true) _ _ (is_first_open p) (next_later (ranked p)) _
      (order_lands p order u w l) in (least.0, rw (ranks_at _ _) at least.1, least.2)

  pub retimed_none : earliest (first_at p) (next_from (ranked p)) (reverse order) ≡ None → (u : Schedule)
      → LandsInOrder p order u → ⊥
  retimed_none e u l = let a = any_lands u l in cc (sym e ∙ a.1)

  pub retimed_least : (t : Schedule) → length t ≡ length p.flights → Retimed t → (u : Schedule)
      → LandsInOrder p order u → AllZip (λ a b. a ≤ b) t u
  retimed_least t long e u l =
      let a = any_lands u l in
      let same : by_seconds p t (reverse order) ≡ a.0 = some_same _ a.0 (sym (is_earliest t e) ∙ a.1) in
      let later = subst (λ xs. NoLater xs (by_seconds p u (reverse order))) (sym same) a.2 in
      let n = l.one_each in
      zip_of t u (omega arith) (λ i lt. no_later_at _ (of_rank 0 u) (reverse order) later
      (suc i) (has_ranks p order w (suc i) (omega arith, omega arith)))
