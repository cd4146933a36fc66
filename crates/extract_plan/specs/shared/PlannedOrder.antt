-- A legal order at its earliest seconds is tight; it is best where each feasible list is matched by seconds of this
-- order that cost no more.
use Rattle.std.proofs.Common.{◌≡◌, ℕ, zero, suc, ◌≤◌, inl, inr, true, List, [], ◌∷◌, length, reverse, refl, sym, ap}
use Rattle.std.proofs.Common.{◌∙◌, arith}
use Rattle.std.specs.List.{AllZip}
use Rattle.std.proofs.lemmas.List.{length-reverse}
use Rattle.wake_table.specs.Table.{IsWakeTable}
use Rattle.precedence.specs.Pairs.{must_precede}
use Rattle.landing_rules.specs.Flights.{Schedule}
use Rattle.landing_rules.specs.Problem.{Problem, IsFeasibleList, IsBestList, IsTightList, list_objective}
use Rattle.cps_theory.specs.RankLists.{In, of_rank, IsRank}
use Rattle.cps_theory.specs.LandingTrail.{ranks}
use Rattle.cps_theory.specs.LegalPrefix.{Legal}
use Rattle.cps_theory.specs.Feasible.{Tight, earliest, next_from, at_seconds, second_in, greatest, total}
use Rattle.cps_theory.specs.Feasible.{second_and_cost}
use Rattle.cps_theory.specs.laws.EarliestAndTight.{earliest_tight, agree_at}
use Rattle.cps_theory.specs.laws.FeasibleOrder.{ranks_at}
use Rattle.cps_theory.specs.laws.LeastObjective.{at_second_in}
use Rattle.cps_theory.specs.laws.RanksBelow.{greatest_least, at_most_greatest, in_upto}
use Rattle.landing_joint.specs.RankedProblem.{no_waiting, ranked, first_at, cost_at, value_of_map}
use Rattle.landing_joint.specs.shared.FirstBestLists.{costs_rise, value_rises}
use Rattle.landing_joint.specs.shared.FirstOpen.{is_first_open}
use Rattle.landing_joint.specs.shared.RankedLists.{feasible_agree, sound_ranked}
use Rattle.landing_joint.specs.shared.BestLists.{list_value, tight_list, zip_rank}
use Rattle.cps_problem.specs.WellFormed.{IsWellFormed}
use Rattle.extract_plan.specs.Orders.{IsWholeOrder, LandsInOrder, EarliestInOrder}
use Rattle.extract_plan.specs.shared.LandingOrder.{by_seconds, has_ranks}

-- what planning asks of a problem
pub record IsPlannedFor (p : Problem) : Type 0 where
  pub table : IsWakeTable p.table
  pub between : (q r : ℕ) → must_precede p.pairs q r ≡ true → IsRank (length p.flights) q
  pub passed : (r : ℕ) → IsRank (length p.flights) r → (of_rank no_waiting p.flights r).passed ≤ p.k

-- a well-formed problem is such
pub well_formed_planned : (p : Problem) → IsWellFormed p → IsPlannedFor p
well_formed_planned p wf = record {
  table = wf.table;
  between = λ q r b. let a = wf.between_ranks q r b in (a.0, a.1);
  passed = low;
}
  where
    low : (r : ℕ) → IsRank (length p.flights) r → (of_rank no_waiting p.flights r).passed ≤ p.k
    low zero q = absurd (omega (arith, q.0))
    low (suc i) q = wf.passed i no_waiting (omega (arith, q.1))

-- ---- a value rises with the seconds

total_rises : (f g : ℕ → ℕ) (rs : List ℕ) → ((r : ℕ) → In r rs → f r ≤ g r) → total f rs ≤ total g rs
total_rises f g [] h = omega arith
total_rises f g (r ∷ rs) h = let a = h r (inl refl) in omega (arith, total_rises f g rs (λ x i. h x (inr i)))

pub map_value_rises : (p : Problem) (t u : ℕ → ℕ) → ((r : ℕ) → IsRank (length p.flights) r → t r ≤ u r)
    → value_of_map p t ≤ value_of_map p u
map_value_rises p t u h =
    value_rises p (second_and_cost (cost_at p) _ t) (second_and_cost (cost_at p) _ u) (
      greatest_least t _ (greatest u _) (λ r q. let a = h r q in omega (arith, at_most_greatest u _ r q)),
      total_rises (λ r. cost_at p r (t r)) (λ r. cost_at p r (u r)) _
          (λ r i. (costs_rise p).mono r (t r) (u r) (h r (in_upto _ r i))),
    )

-- ---- lists

pub list_value_rises : (p : Problem) (v w : Schedule) → length v ≡ length p.flights → length w ≡ length p.flights
    → AllZip (λ a b. a ≤ b) v w → list_objective p v ≤ list_objective p w
list_value_rises p v w lv lw z =
    let a = list_value p v lv in
    let b = list_value p w lw in
    omega (arith, map_value_rises p _ _ (λ r q. zip_rank v w z r (q.0, omega (arith, q.1))))

-- ---- a planned order

tight_agree : (p : Problem) (t u : ℕ → ℕ) → ((r : ℕ) → IsRank (length p.flights) r → t r ≡ u r)
    → Tight (ranked p) t → Tight (ranked p) u
tight_agree p t u h tight = record {
  feasible = feasible_agree (ranked p) t u h tight.feasible;
  least = λ v f o r q.
      let a = tight.least v f (λ x y qx qy. let s = o x y qx qy in let ex = h x qx in let ey =
      h y qy in (λ lt. s.0 (omega arith), λ lt. let z = s.1 lt in omega arith)) r q in
      let e = h r q in
      omega arith;
}

module _ (p : Problem) (is : IsPlannedFor p) (order : List ℕ) (w : IsWholeOrder (length p.flights) order)
    (legal : Legal (ranked p).rules (reverse order)) where
  pub order_tight : (v : Schedule) → length v ≡ length p.flights → EarliestInOrder p order v → IsTightList p v
  order_tight v long e =
      let rs = reverse order in
      let zs = by_seconds p v rs in
      let same : ranks zs ≡ rs = ranks_at (of_rank 0 v) rs in
      let t = earliest_tight (ranked p) (sound_ranked p is.table is.between) (first_at p) (is_first_open p) zs
      (rw same legal) (ap length same ∙ length-reverse order ∙ w.whole)
      (ap (earliest (first_at p) (next_from (ranked p))) same ∙ e) in
      let at : at_seconds (second_in zs) rs ≡ at_seconds (of_rank 0 v) rs =
      ap (at_seconds (second_in zs)) (sym same) ∙ at_second_in zs (rw same w.distinct) in
      tight_list p is.passed v long (tight_agree p (second_in zs) (of_rank 0 v)
      (λ r q. agree_at (second_in zs) (of_rank 0 v) rs at r (has_ranks p order w r q)) t.0)

  -- no feasible list costs less than some seconds of this order
  abbrev pub MatchesAll : Type 0
  MatchesAll = (u : Schedule) → IsFeasibleList p u → (x : Schedule) × LandsInOrder p order x
      × (list_objective p x ≤ list_objective p u)

  pub order_best : (v : Schedule) → length v ≡ length p.flights → EarliestInOrder p order v
      → ((x : Schedule) → LandsInOrder p order x → AllZip (λ a b. a ≤ b) v x) → MatchesAll → IsBestList p v
  order_best v long e least all = record {
    feasible = (order_tight v long e).feasible;
    least = λ u f.
        let x = all u f in
        let a = list_value_rises p v x.0 long x.1.one_each (least x.0 x.1) in
        let b = x.2 in
        omega arith;
  }
