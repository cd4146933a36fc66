-- The first best list of a problem gives the first best schedule of its situation, and there is at most one.
use Rattle.std.proofs.Common.{◌≡◌, ◌≢◌, ℕ, zero, suc, ◌<◌, ◌≤◌, inl, inr, List, [], ◌∷◌, length, get_or, map, filter}
use Rattle.std.proofs.Common.{true, false, not, zero-le, arith, refl, sym, ap, subst, ◌∙◌}
use Rattle.std.specs.Prelude.{Option, Some, None, option_map}
use Rattle.std.proofs.lemmas.Bool.{cases_eq, cases_Bool}
use Rattle.std.proofs.lemmas.List.{get_or_default}
use Rattle.std.proofs.lemmas.List.Elements.{AllZip-get_or}
use Rattle.wake_table.specs.Table.{IsWakeTable}
use Rattle.landing_rules.specs.Flights.{Active, Situation, Schedule}
use Rattle.landing_rules.specs.Rules.{IsFeasible, IsBest, IsTight, HaveSameOrder, objective}
use Rattle.landing_rules.specs.Events.{insert_landing, in_landing_order, IsPlanShown}
use Rattle.landing_rules.specs.Problem as lists'
use Rattle.landing_rules.specs.FirstBest.{IsFirstBest, IsFirstPlan, IsFirstBestList, IsFirstList}
use Rattle.landing_rules.specs.FirstBest.{order_of, order_of_list, insert_by, sorted_by}
use Rattle.landing_rules.specs.Sound.{IsSound}
use Rattle.cps_theory.specs.RankLists.{In, IsRank, of_rank}
use Rattle.cps_theory.specs.Freeze.{rank_in}
use Rattle.cps_theory.specs.Feasible.{SoundProblem}
use Rattle.cps_theory.specs.FirstBest.{Ascends, InLandingOrder}
use Rattle.cps_theory.specs.NumberedSituation as numbers
use Rattle.cps_theory.specs.laws.Members.{in_filter, filter_in}
use Rattle.cps_theory.specs.laws.NumberedLists.{filter_map_is, map_map, in_numbers, numbers_in, distinct_numbers}
use Rattle.cps_theory.specs.laws.ProblemOfSituation as theory
use Rattle.cps_theory.specs.laws.RankCounts.{count_is, count_stricter}
use Rattle.landing_joint.specs.Numbered.{second_of, numbers_of, waits_at, comes_before, numbered_situation}
use Rattle.landing_joint.specs.ByNumber.{number_at, joined}
use Rattle.landing_joint.specs.RankedProblem.{no_waiting, ranked}
use Rattle.landing_joint.specs.SoundProblem.{IsSoundProblem}
use Rattle.landing_joint.specs.shared.RankedLists.{list_feasible, sound_ranked}
use Rattle.landing_joint.specs.shared.BestLists.{zip_of, zip_same}
use Rattle.landing_rules.specs.shared.Members.{in_map, map_in}
use Rattle.landing_joint.specs.shared.SortedBySeconds.{in_sorted_by, sorted_by_in, sorted_by_ascends, filter_ascends}
use Rattle.landing_joint.specs.shared.SortedBySeconds.{map_ascends, map_one, ascends_same}
use Rattle.landing_joint.specs.shared.FirstBestLists.{first_best_list_exists, first_best_list_is_one, no_later_antisym}
use Rattle.landing_joint.specs.shared.FirstBestLists.{list_in_landing_order, one_landing_order}
use Rattle.landing_joint.proofs.Numbered.{landing_at, landings_are}
use Rattle.landing_joint.proofs.Joint.{all_among, feasible_numbered, first_come, sound_numbered}
use Rattle.landing_joint.proofs.JoinedSchedule.{joined_in_words, map_agree, rank_is, tight_list_schedule}
use Rattle.landing_joint.proofs.Problem as joint

-- landings in order are those of the numbers in order
order_insert : (all : List Active) (t : Schedule) (i : ℕ) (js : List ℕ)
    → insert_landing (landing_at all t i) (map (landing_at all t) js) ≡ map (landing_at all t)
    (insert_by (second_of t) i js)
order_insert all t i [] = refl
order_insert all t i (j ∷ js) = grind (arith, cases_Bool, landing_at, order_insert all t i js)

order_numbers : (all : List Active) (t : Schedule) (js : List ℕ)
    → in_landing_order (map (landing_at all t) js) ≡ map (landing_at all t) (sorted_by (second_of t) js)
order_numbers all t [] = refl
order_numbers all t (j ∷ js) = search (landing_at, order_insert, order_numbers all t js)

module _ (s : Situation) (sound : IsSound s) where
  abbrev ns : numbers.NumberedSituation
  ns = numbered_situation s

  -- the numbers of the waiting flights, in landing order
  abbrev waiting_by : Schedule → List ℕ
  waiting_by t = filter (waits_at s.active) (sorted_by (second_of t) (numbers_of s.active))

  rank_of : ℕ → ℕ
  rank_of i = rank_in (comes_before s.active) (numbered_situation s).waiting i

  in_waiting_by : (t : Schedule) (i : ℕ) → In i (waiting_by t) → In i ns.waiting
  in_waiting_by t i m = grind (arith, in_filter, filter_in, in_sorted_by)

  waiting_in_by : (t : Schedule) (i : ℕ) → In i ns.waiting → In i (waiting_by t)
  waiting_in_by t i m = grind (arith, in_filter, filter_in, sorted_by_in)

  -- the order of ranks is that of these numbers
  order_is : (t : Schedule) → length t ≡ length s.active → order_of s t ≡ map rank_of (waiting_by t)
  unfolding rank_of
  order_is t long =
      grind (arith, landings_are, order_numbers, filter_map_is, map_map, map_agree, rank_is, in_filter, in_waiting_by)

  -- different waiting flights have different ranks
  rank_below : (i j : ℕ) → In i ns.waiting → comes_before s.active i j ≡ true → rank_of i < rank_of j
  unfolding rank_of
  rank_below i j m e =
      let c = first_come s.active in
      let before = comes_before s.active in
      let itself : before i i ≡ false = elim (cases_Bool _) [ inl t ↦ c.one_way i i t | inr f ↦ f ] in
      let lt = count_stricter _ _ i _ m itself e (λ g k h. c.chain g i j h e) in grind (arith, count_is)

  ranks_one : (i j : ℕ) → In i ns.waiting → In j ns.waiting → rank_of i ≡ rank_of j → i ≡ j
  ranks_one i j mi mj e = elim (cases_eq i j) [
    | inl q ↦ q
    | inr ne ↦ elim (cases_Bool _) [
      | inl b ↦ absurd (omega (arith, rank_below i j mi b))
      | inr b ↦ absurd (omega (arith, rank_below j i mj ((first_come s.active).total i j ne b)))
    ]
  ]

  -- no two land at one second
  seconds_differ : (t : Schedule) → numbers.FeasibleIn ns (second_of t) → (i j : ℕ) → In i (numbers_of s.active)
      → In j (numbers_of s.active) → i ≢ j → second_of t i ≢ second_of t j
  seconds_differ t f i j mi mj ne e =
      omega (arith, f.separated i j (all_among s sound i mi) (all_among s sound j mj) ne (omega arith))

  waiting_ascend : (t : Schedule) → numbers.FeasibleIn ns (second_of t) → Ascends (second_of t) (waiting_by t)
  waiting_ascend t f = filter_ascends _ _ _ (sorted_by_ascends _ _ (distinct_numbers 0 _) (seconds_differ t f))

  -- where the waiting flights land in the same order, all do
  all_same : (t u : Schedule) → numbers.FeasibleIn ns (second_of t) → numbers.FeasibleIn ns (second_of u)
      → ((i j : ℕ) → In i ns.waiting → In j ns.waiting → second_of t i < second_of t j → second_of u i < second_of u j)
      → (i j : ℕ) → In i (numbers_of s.active) → In j (numbers_of s.active) → second_of t i < second_of t j
      → second_of u i < second_of u j
  all_same t u f g same i j mi mj lt = elim (cases_Bool _) [
    | inl wi ↦ elim (cases_Bool _) [
      | inl wj ↦ same i j (waits i mi wi) (waits j mj wj) lt
      | inr wj ↦ absurd (let a = f.behind i (waits i mi wi) in
          let b = f.kept j (rests j mj wj) in
          let c = (sound_numbered s sound).frozen_before j (rests j mj wj) in
          omega arith)
    ]
    | inr wi ↦ elim (cases_Bool _) [
      | inl wj ↦
          (let a = g.behind j (waits j mj wj) in
          let b = g.kept i (rests i mi wi) in
          let c = (sound_numbered s sound).frozen_before i (rests i mi wi) in
          omega arith)
      | inr wj ↦
          (let a = f.kept i (rests i mi wi) in
          let b = f.kept j (rests j mj wj) in
          let c = g.kept i (rests i mi wi) in
          let d = g.kept j (rests j mj wj) in
          omega arith)
    ]
  ]
    where
      waits : (x : ℕ) → In x (numbers_of s.active) → waits_at s.active x ≡ true → In x (numbered_situation s).waiting
      waits x m e = filter_in _ x _ m e

      rests : (x : ℕ) → In x (numbers_of s.active) → waits_at s.active x ≡ false → In x (numbered_situation s).frozen
      rests x m e = filter_in _ x _ m (ap not e)

  all_in_order : (t u : Schedule) → length t ≡ length s.active → numbers.FeasibleIn ns (second_of t)
      → numbers.FeasibleIn ns (second_of u)
      → ((i j : ℕ) → In i ns.waiting → In j ns.waiting → second_of t i < second_of t j → second_of u i < second_of u j)
      → ((i j : ℕ) → In i ns.waiting → In j ns.waiting → second_of u i < second_of u j → second_of t i < second_of t j)
      → HaveSameOrder t u
  all_in_order t u long f g forth back i j li lj =
      let mi = numbers_in 0 _ i zero-le (omega arith) in
      let mj = numbers_in 0 _ j zero-le (omega arith) in
      (all_same t u f g forth i j mi mj, all_same u t g f back i j mi mj)

  -- schedules whose waiting flights land in one order of ranks land all flights in one order
  order_tells : (t u : Schedule) → IsFeasible s t → IsFeasible s u → order_of s t ≡ order_of s u → HaveSameOrder t u
  order_tells t u ft fu e =
      let f = feasible_numbered s sound t ft.0 ft in
      let g = feasible_numbered s sound u fu.0 fu in
      let one = map_one _ _ _
      (λ i j mi mj. ranks_one i j (in_waiting_by t i mi) (in_waiting_by u j mj)) (grind (arith, order_is)) in
      let at = waiting_ascend t f in
      let au = subst (Ascends (second_of u)) (sym one) (waiting_ascend u g) in
      all_in_order t u ft.0 f g (λ i j mi mj. ascends_same _ _ _ at au i j (waiting_in_by t i mi)
      (waiting_in_by t j mj)) (λ i j mi mj. ascends_same _ _ _ au at i j (waiting_in_by t i mi) (waiting_in_by t j mj))

  -- there is at most one first best schedule
  pub first_best_is_one : (t u : Schedule) → IsFirstBest s t → IsFirstBest s u → t ≡ u
  first_best_is_one t u a b = grind (arith, no_later_antisym, order_tells, zip_same)

-- a first best schedule costs what every best one does
pub first_best_objective : (s : Situation) (t u : Schedule) → IsFirstBest s t → IsBest s u
    → objective s t ≡ objective s u
first_best_objective s t u a b = omega arith

module _ (s : Situation) (sound : IsSound s) (p : lists'.Problem) (of : lists'.IsProblemOf s p) where
  -- what the theory asks of the problem
  pub problem_sound : SoundProblem (ranked p)
  problem_sound = sound_ranked p (rw of.table sound.table) (λ q r e. let b = of.between_ranks q r e in (b.0, b.1))

  -- the order of a list is that of the schedule that it gives
  pub joined_order : (v : Schedule) → lists'.IsFeasibleList p v → order_of s (joined s v) ≡ order_of_list v
  unfolding rank_of
  joined_order v f =
      let J = joined s v in
      let n = length p.flights in
      let g = joint.list_gives_schedule s sound p of v f in
      let long = joint.joined_long s sound p of v in
      let fn = feasible_numbered s sound J long g in
      let rank_at : (r : ℕ) → IsRank n r → rank_of s sound (number_at s r) ≡ r =
      λ r q. theory.rank_is _ _ _ (sound_numbered s sound) problem_of r q in
      let by : InLandingOrder n (of_rank 0 v) (map (rank_of s sound) (waiting_by s sound J)) = record {
        ranked = λ x i.
            let w = in_map (rank_of s sound) (waiting_by s sound J) x i in
            let a = problem_of.at_all w.0 (in_waiting_by s sound J w.0 w.1) in
            subst (IsRank n) (sym (rank_at a.0 a.1) ∙ ap (rank_of s sound) a.2 ∙ sym w.2) a.1;
        whole = λ x q. subst (λ z. In z (map (rank_of s sound) (waiting_by s sound J))) (rank_at x q)
            (map_in (rank_of s sound) (waiting_by s sound J) (number_at s x)
            (waiting_in_by s sound J (number_at s x) (problem_of.at_in x q)));
        ascends = map_ascends (second_of J) (of_rank 0 v) (rank_of s sound) (waiting_by s sound J)
            (λ i m. let a = problem_of.at_all i (in_waiting_by s sound J i m) in subst
            (λ z. of_rank 0 v (rank_of s sound z) ≡ second_of J z) a.2 (ap (of_rank 0 v) (rank_at a.0 a.1)
            ∙ sym (joint.joined_rank s sound p of v a.0 a.1))) (waiting_ascend s sound J fn);
      } in search (arith, order_is, one_landing_order, problem_sound, list_feasible, list_in_landing_order)
    where
      problem_of : numbers.ProblemOf (numbered_situation s) (ranked p) (number_at s)
      problem_of = joint.problem_of s sound p of

  -- a list whose schedule is best is best
  pub best_schedule_list : (v : Schedule) → lists'.IsFeasibleList p v → IsBest s (joined s v) → lists'.IsBestList p v
  best_schedule_list v f b = record {
    feasible = f;
    least = λ u g.
        let a = b.least (joined s u) (joint.list_gives_schedule s sound p of u g) in
        let here = joint.same_objective s sound p of v f in grind (arith, joint.same_objective);
  }

  -- lists that land in one order give schedules that do
  order_given : (v w : Schedule) → lists'.IsFeasibleList p v → lists'.IsFeasibleList p w → HaveSameOrder v w
      → HaveSameOrder (joined s v) (joined s w)
  order_given v w f g same =
      let long = joint.joined_long s sound p of v in
      all_in_order s sound _ _ long (feasible_numbered s sound _ long (joint.list_gives_schedule s sound p of v f))
      (feasible_numbered s sound _ (joint.joined_long s sound p of w) (joint.list_gives_schedule s sound p of w g))
      (λ i j mi mj. two v w (λ q r iq ir lt. (by_rank f.one_each same q r iq ir).0 lt) i j mi mj)
      (λ i j mi mj. two w v (λ q r iq ir lt. (by_rank f.one_each same q r iq ir).1 lt) i j mi mj)
    where
      by_rank : length v ≡ length p.flights → HaveSameOrder v w → (q r : ℕ) → IsRank (length p.flights) q
          → IsRank (length p.flights) r → (of_rank 0 v q < of_rank 0 v r → of_rank 0 w q < of_rank 0 w r)
          × (of_rank 0 w q < of_rank 0 w r → of_rank 0 v q < of_rank 0 v r)
      by_rank long o zero r iq ir = omega arith
      by_rank long o (suc i) zero iq ir = omega arith
      by_rank long o (suc i) (suc j) iq ir = let x = o i j (omega arith) (omega arith) in (x.0, x.1)

      two : (x y : Schedule) → ((q r : ℕ) → IsRank (length p.flights) q → IsRank (length p.flights) r
          → of_rank 0 x q < of_rank 0 x r → of_rank 0 y q < of_rank 0 y r)
          → (i j : ℕ) → In i (numbered_situation s).waiting → In j (numbered_situation s).waiting
          → second_of (joined s x) i < second_of (joined s x) j → second_of (joined s y) i < second_of (joined s y) j
      two x y h i j mi mj =
          let a = (joint.problem_of s sound p of).at_all i mi in
          let b = (joint.problem_of s sound p of).at_all j mj in grind (arith, joint.joined_rank)

  -- a list whose schedule is tight is tight
  pub tight_schedule_list : (v : Schedule) → lists'.IsFeasibleList p v → IsTight s (joined s v) → lists'.IsTightList p v
  tight_schedule_list v f t = record {
    feasible = f;
    earliest = λ u g o.
        let z = t.earliest (joined s u) (joint.list_gives_schedule s sound p of u g) (order_given v u f g o) in
        zip_of v u (omega arith) (λ i lt.
        let q : IsRank (length p.flights) (suc i) = omega arith in
        let b = in_numbers 0 (length s.active) (number_at s (suc i)) (joint.among s sound p of (suc i) q) in
        let le =
        AllZip-get_or (λ a b. a ≤ b) (joined s v) (joined s u) (number_at s (suc i)) 0 0 z
        (omega (arith, b.1, joint.joined_long s sound p of v)) in
        let c = joint.joined_rank s sound p of u (suc i) q in
        omega (arith, joint.joined_rank s sound p of v (suc i) q, c, le));
  }

  -- the first best list gives the first best schedule
  pub first_best_schedule : (v : Schedule) → IsFirstBestList p v → IsFirstBest s (joined s v)
  first_best_schedule v b = record {
    best = joint.best_list_schedule s sound p of v b.best;
    tight = tight_list_schedule s sound p of v b.tight;
    first = λ u bu tu.
        let w = joint.schedule_gives_list s sound p of u bu.feasible in
        let bw = best_schedule_list w.0 w.1 (subst (IsBest s) w.2 bu) in
        let tw = tight_schedule_list w.0 w.1 (subst (IsTight s) w.2 tu) in grind (arith, joined_order);
  }

  passed_low : (r : ℕ) → IsRank (length p.flights) r → (of_rank no_waiting p.flights r).passed ≤ p.k
  passed_low r q = joint.passed_low' s sound p of r q

  -- where a schedule is feasible there is a first best one
  pub first_best_schedule_exists : (t : Schedule) → IsFeasible s t → (v : Schedule) × IsFirstBestList p v
      × IsFirstBest s (joined s v)
  first_best_schedule_exists t f =
      let w = joint.schedule_gives_list s sound p of t f in
      let v = first_best_list_exists p problem_sound passed_low w.0 w.1 in
      (v.0, v.1, first_best_schedule v.0 v.1)

  rank_at : (i : ℕ) (f : lists'.Waiting) → i < length p.flights → f ≡ get_or p.flights i no_waiting → f.passed ≤ p.k
  rank_at i f lt e = let a = passed_low (suc i) (omega arith, omega arith) in grind arith

  -- the problem of a sound situation is sound
  pub sound_problem : IsSoundProblem p
  sound_problem = record {
    table = subst (λ t. IsWakeTable t) (sym of.table) sound.table;
    between_ranks = of.between_ranks;
    passed = λ i d lt. rank_at i (get_or p.flights i d) lt (get_or_default p.flights i d no_waiting lt);
  }

-- ---- of lists alone

module _ (p : lists'.Problem) (is : IsSoundProblem p) where
  pub ranked_sound : SoundProblem (ranked p)
  ranked_sound = sound_ranked p is.table (λ q r e. let b = is.between_ranks q r e in (b.0, b.1))

  pub passed_at : (r : ℕ) → IsRank (length p.flights) r → (of_rank no_waiting p.flights r).passed ≤ p.k
  passed_at r q = grind arith

  pub one_first_best_list : (v w : Schedule) → IsFirstBestList p v → IsFirstBestList p w → v ≡ w
  one_first_best_list = first_best_list_is_one p ranked_sound passed_at

  pub some_first_best_list : (v : Schedule) → lists'.IsFeasibleList p v → (w : Schedule) × IsFirstBestList p w
  some_first_best_list = first_best_list_exists p ranked_sound passed_at

-- ---- plans

pub first_plan_is_one : (s : Situation) (plan other : Option Schedule) → IsSound s → IsFirstPlan s plan
    → IsFirstPlan s other → plan ≡ other
first_plan_is_one s plan other sound a b = grind (arith, first_best_is_one)

pub first_plan_is_shown : (s : Situation) (plan : Option Schedule) → IsFirstPlan s plan → IsPlanShown s plan
first_plan_is_shown s plan a = grind arith

pub first_list_gives_plan : (s : Situation) (p : lists'.Problem) (list : Option Schedule) → IsSound s
    → lists'.IsProblemOf s p → IsFirstList p list → IsFirstPlan s (option_map (lists'.joined s) list)
first_list_gives_plan s p None sound of a = λ t f. let w = joint.schedule_gives_list s sound p of t f in a w.0 w.1
first_list_gives_plan s p (Some v) sound of a = rw (joined_in_words s sound v) (first_best_schedule s sound p of v a)
