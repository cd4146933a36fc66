-- The last stage of a problem tells the least objective of its feasible lists, and an order whose earliest seconds are
-- a best and tight schedule.
use Rattle.std.proofs.Common.{◌≡◌, ℕ, ◌<◌, ◌≤◌, List, [], ◌∷◌, length, get_or, map, inl, inr, refl, sym, ap, subst, ◌∙◌}
use Rattle.std.proofs.Common.{arith, le_trans, reverse, ◌++◌}
use Rattle.std.specs.Prelude.{ℤ}
use Rattle.std.proofs.lemmas.List.{get_or_default, length-reverse}
use Rattle.landing_rules.specs.declared.objective.Objective.{Objective}
use Rattle.landing_rules.specs.declared.objective.Objective.TheVariants.{Makespan, Delay}
use Rattle.landing_rules.specs.Flights.{Schedule}
use Rattle.landing_rules.specs.Problem.{Problem, IsFeasibleList, IsBestList, list_objective, IsTightList}
use Rattle.cps_theory.specs.RankLists.{of_rank, IsRank, numbers_from, In}
use Rattle.cps_theory.specs.LandingTrail.{ranks}
use Rattle.cps_theory.specs.Labels.{InPairs, NoWorse, Pair}
use Rattle.cps_theory.specs.Feasible.{second_in, second_and_cost as map_pair, at_seconds}
use Rattle.cps_theory.specs.UndominatedPairs.{Staircase}
use Rattle.cps_theory.specs.laws.LeastObjective.{feasible_landing_trail, landing_trail_feasible, at_second_in}
use Rattle.landing_joint.specs.RankedProblem.{ranked, cost_at, value_by, value_at, value_of_map}
use Rattle.landing_joint.specs.shared.RankedLists.{feasible_agree, feasible_list, list_feasible, sound_ranked}
use Rattle.landing_joint.specs.shared.BestLists.{list_value}
use Rattle.landing_joint.specs.shared.FirstBestLists.{list_of_at, list_of_long, value_rises_by}
use Rattle.extract_plan.specs.shared.PlannedOrder.{IsPlannedFor, map_value_rises, order_best, order_tight}
use Rattle.cps_network.specs.Lists.{node_at}
use Rattle.cps_network.specs.Nodes.{node_of}
use Rattle.cps_network.specs.Landable.{Attains}
use Rattle.cps_network.specs.Pairs.{list_at}
use Rattle.cps_network.specs.shared.PairSteps.{at_in}
use Rattle.makespan_labels.specs.shared.LabelPairs.{attains_free}
use Rattle.replan.specs.LeastValue.{IsLeastPlace, IsWorthNoMore}
use Rattle.replan.specs.Labels.{StagePairs, HoldsPairs, last_pair, worth}
use Rattle.std.specs.List.{AllZip}
use Rattle.cps_theory.specs.LegalPrefix.{Legal}
use Rattle.cps_theory.specs.laws.FeasibleOrder.{at_seconds_agree}
use Rattle.cps_theory.specs.laws.FrozenFront.{each_fits_distinct}
use Rattle.cps_theory.specs.laws.LegalPrefix.{legal_each_fits, in_from_one}
use Rattle.cps_theory.specs.laws.OrderLoops.{front_whole}
use Rattle.extract_plan.specs.Orders.{IsWholeOrder, LandsInOrder, EarliestInOrder}
use Rattle.extract_plan.specs.shared.LandingOrder.{in_order, trail_lands}
use Rattle.replan.specs.Stages.{LandsWithPair}
use Rattle.replan.specs.shared.LastPairs.{last_cheapest}

-- ---- no feasible list is worth less than the least last pair

-- where no pair costs anything there is one alone
only_pair : (pairs : List Pair) → Staircase pairs → ((q : Pair) → InPairs q pairs → q.1 ≡ 0)
    → (q : Pair) → InPairs q pairs → last_pair pairs ≡ q
only_pair [] s free q i = absurd i
only_pair (x ∷ []) s free q (inl e) = sym e
only_pair (x ∷ []) s free q (inr i) = absurd i
only_pair (x ∷ (y ∷ pairs)) s free q i =
    let a = (s.0 y (inl refl)).1 in
    let b = free x (inl refl) in
    absurd (omega arith)

least_worth : (o : Objective) (pairs : List Pair) → Staircase pairs
    → (o ≡ Makespan → (q : Pair) → InPairs q pairs → q.1 ≡ 0) → (a q : Pair) → InPairs a pairs → NoWorse a q
    → worth o (last_pair pairs) ≤ worth o q
least_worth Makespan pairs s free a q i le =
    let e = ap (λ z. z.0) (only_pair pairs s (free refl) a i) in
    let l = le.0 in
    omega arith
least_worth Delay pairs s free a q i le = le_trans (last_cheapest pairs s a i) le.1

-- what is worth no more has no greater value
pub value_rises : (p : Problem) (o : Objective) (a b : Pair) → worth o a ≤ worth o b → value_by o p a ≤ value_by o p b
value_rises p Makespan a b le = value_rises_by p Makespan a (b.0, a.1) (le, omega arith)
value_rises p Delay a b le = omega arith

module _ (p : Problem) (is : IsPlannedFor p) (stage : ℕ × List (List ℤ)) (labels : StagePairs)
    (last : stage.0 ≡ length p.flights) (holds : HoldsPairs p stage labels) where
  -- a feasible list lands in some window of the last stage, worth no less than its last pair
  bounds : (u : Schedule) → IsFeasibleList p u
      → (i : ℕ) × (i < length labels.lists)
      × (worth p.objective (last_pair (list_at labels.lists i)) ≤ worth p.objective
      (map_pair (cost_at p) (length p.flights) (of_rank 0 u)))
  bounds u f =
      let held = holds.held in
      let q : Pair = map_pair (cost_at p) (length p.flights) (of_rank 0 u) in
      let x = feasible_landing_trail (ranked p) (cost_at p) (sound_ranked p is.table is.between)
      (of_rank 0 u) (list_feasible p u f) in
      let v : List ℤ = (node_of p.k (ranks x.0)).1 in
      let a : Attains p stage.0 v q = record {
        landings = x.0;
        legal = x.1;
        landed = x.2;
        at = ap (λ n. (n, v)) (x.3 ∙ sym last);
        is = x.4;
      } in
      let has = (held.landable v).1 (q, a) in
      let it : node_at stage.1 has.0 ≡ v = get_or_default stage.1 has.0 [] v has.1 ∙ has.2 in
      let are = held.costs.pairs has.0 has.1 in
      let o = are.covers q (rw it a) in (
        has.0,
        omega arith,
        least_worth p.objective (list_at labels.lists has.0) are.falling (λ makespan r i.
            attains_free p makespan stage.0 (node_at stage.1 has.0) r ((are.undominated r).0 i).attained) o.0 q o.1 o.2,
      )

  -- without a window no list is feasible
  pub none_feasible : length labels.lists ≡ 0 → (u : Schedule) → IsFeasibleList p u → ⊥
  none_feasible none u f =
      let inside = (bounds u f).1 in absurd (omega arith)

  module _ (place : ℕ) (least : IsLeastPlace labels place) where
    -- no feasible list is worth less than the last pair of the place whose last pair is worth least
    pub no_more : IsWorthNoMore p (last_pair (list_at labels.lists place))
    no_more u f =
        let b = bounds u f in
        let le = b.2 in
        let here : worth p.objective (last_pair (list_at labels.lists place)) ≤ worth p.objective
        (last_pair (list_at labels.lists b.0)) =
        subst (λ o. worth o (last_pair (list_at labels.lists place)) ≤ worth o
        (last_pair (list_at labels.lists b.0))) holds.objective (least.1 b.0 b.1) in
        omega arith

    abbrev pub least_pair : Pair
    least_pair = last_pair (list_at labels.lists place)

    module _ (some : 0 < length (list_at labels.lists place)) where
      attained : Attains p stage.0 (node_at stage.1 place) least_pair
      attained =
          let here : place < length stage.1 = let l = least.0 in omega arith in
          let has : InPairs least_pair (list_at labels.lists place) = at_in _
          _ least_pair (omega arith) refl in
          (((holds.held.costs.pairs place here).undominated least_pair).0 has).attained

      best_seconds : Schedule
      best_seconds = map (second_in attained.landings) (numbers_from 1 (length p.flights))

      best_long : length best_seconds ≡ length p.flights
      unfolding best_seconds
      best_long = list_of_long _ _

      -- some best list has the objective of that pair
      pub least_is_best : (t : Schedule) × IsBestList p t × (list_objective p t ≡ value_at p least_pair)
      unfolding best_seconds
      least_is_best =
          let whole : length (ranks attained.landings) ≡ length p.flights = ap (λ n. n.0) attained.at ∙ last in
          let f = landing_trail_feasible (ranked p) (cost_at p)
          (sound_ranked p is.table is.between) attained.landings attained.legal attained.landed whole in
          let same : (r : ℕ) → IsRank (length p.flights) r → second_in attained.landings r ≡ of_rank 0 best_seconds r =
          λ r q. sym (list_of_at (length p.flights) (second_in attained.landings) r q) in
          let feasible : IsFeasibleList p best_seconds = feasible_list p is.passed best_seconds best_long
          (feasible_agree (ranked p) (second_in attained.landings) (of_rank 0 best_seconds) same f.0) in
          let low = map_value_rises p (second_in attained.landings) (of_rank 0 best_seconds) (λ r q. let e =
          same r q in omega arith) in
          let high = map_value_rises p (of_rank 0 best_seconds) (second_in attained.landings) (λ r q. let e =
          same r q in omega arith) in
          let of_pair : value_of_map p (second_in attained.landings) ≡ value_at p least_pair =
          ap (value_at p) (sym f.1 ∙ attained.is) in
          let of_list = list_value p best_seconds best_long in
          let value : list_objective p best_seconds ≡ value_at p least_pair =
          omega arith in (
            best_seconds,
            record {
              feasible = feasible;
              least = λ u g.
                  let there = list_value p u g.one_each in
                  let le = value_rises p p.objective least_pair (map_pair (cost_at p) (length p.flights) (of_rank 0 u))
                  (no_more u g) in
                  omega arith;
            },
            value,
          )

in_reverse : (order : List ℕ) (k d : ℕ) → k < length order → In (get_or order k d) (reverse order)
in_reverse order k d lt = rw (front_whole order k d lt) (in_behind _ _ _)
  where
    in_behind : (xs : List ℕ) (x : ℕ) (ys : List ℕ) → In x (xs ++ x ∷ ys)
    in_behind [] x ys = inl refl
    in_behind (z ∷ xs) x ys = inr (in_behind xs x ys)

module _ (p : Problem) (is : IsPlannedFor p) (order : List ℕ) (end : Pair) (whole : length order ≡ length p.flights)
    (lands : LandsWithPair p order end) where
  legal : Legal (ranked p).rules (reverse order)
  legal = rw lands.1 at lands.2

  pub order_is_whole : IsWholeOrder (length p.flights) order
  order_is_whole = record {
    whole = whole;
    ranks = λ k d lt. in_from_one (ranked p).rules (get_or order k d) (reverse order)
        (legal_each_fits (ranked p).rules (reverse order) legal) (in_reverse order k d lt);
    distinct = each_fits_distinct (ranked p).rules (reverse order)
        (legal_each_fits (ranked p).rules (reverse order) legal);
  }

  abbrev pub seconds : Schedule
  seconds = map (second_in lands.0) (numbers_from 1 (length p.flights))

  long : length seconds ≡ length p.flights
  long = list_of_long _ _

  -- the landings, as seconds by rank, land in the order
  pub order_lands : LandsInOrder p order seconds
  order_lands =
      let distinct = order_is_whole.distinct in
      let same : at_seconds (of_rank 0 seconds) (reverse order) ≡ at_seconds (second_in lands.0) (reverse order) =
      at_seconds_agree _ _ _ (λ r i. list_of_at _ _ r (in_order p order order_is_whole r i)) in
      let back : at_seconds (second_in lands.0) (reverse order) ≡ lands.0 = ap (at_seconds (second_in lands.0))
      (sym lands.1) ∙ at_second_in lands.0 (rw lands.1 distinct) in
      trail_lands p is.table order seconds order_is_whole long (rw (same ∙ back) lands.3)

  -- they land last at the pair's second, and cost what it says
  pair_is : map_pair (cost_at p) (length p.flights) (second_in lands.0) ≡ end
  pair_is =
      let f = landing_trail_feasible _ _ (sound_ranked p is.table is.between) lands.0 lands.2 lands.3
      (ap length lands.1 ∙ length-reverse order ∙ whole) in
      sym f.1 ∙ lands.4

  pub plan_best : (v : Schedule) → length v ≡ length p.flights → EarliestInOrder p order v
      → ((x : Schedule) → LandsInOrder p order x → AllZip (λ a b. a ≤ b) v x)
      → IsWorthNoMore p end → IsBestList p v × IsTightList p v
  plan_best v room earliest least low = (
    order_best p is order order_is_whole legal v room earliest least (λ u f. (
      seconds,
      order_lands,
      (let here = list_value p seconds long in
          let there = list_value p u f.one_each in
          let a = map_value_rises p (of_rank 0 seconds) (second_in lands.0) (λ r q. let e =
          list_of_at (length p.flights) (second_in lands.0) r q in omega (arith, e)) in
          let b = subst (λ (e : Pair). value_by p.objective p e ≤ value_by p.objective p
          (map_pair (cost_at p) (length p.flights) (of_rank 0 u))) (sym pair_is)
          (value_rises p p.objective end (map_pair (cost_at p) (length p.flights) (of_rank 0 u)) (low u f)) in
          omega (arith, here, there, a, b)),
    )),
    order_tight p is order order_is_whole legal v room earliest,
  )
