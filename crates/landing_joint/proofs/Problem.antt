-- The problem of a situation is a problem of the theory, and its feasible lists are the feasible maps.
use Rattle.std.proofs.lemmas.Grind.{common_steps}
use Rattle.std.proofs.Common.{◌≡◌, ℕ, zero, suc, ◌+◌, ◌-◌, ◌*◌, ◌<◌, ◌≤◌, ◌⊎◌, inl, inr, List, [], ◌∷◌, length, get_or}
use Rattle.std.proofs.Common.{map, filter, cond, Bool, not, ◌&&◌, nat_le, zero-le, le_antisymm, add-one, arith, refl}
use Rattle.std.proofs.Common.{sym, ap, ap₂, subst, ◌∙◌}
use Rattle.std.specs.Prelude.{filter_map, option_map, unwrap_or, sum_by, None, IsPermutation}
use Rattle.std.specs.List.{AllZip, list_any, zip}
use Rattle.std.proofs.lemmas.Bool.{cases_eq, cases_lt, cases_Bool, and_parts, and_from, and_right, not-true}
use Rattle.std.proofs.lemmas.List.Sorted.{IsPermutation-sym, IsPermutation-trans, sum_by-IsPermutation}
use Rattle.wake_table.specs.Table.{separation}
use Rattle.landing_rules.specs.Flights.{landing, Active, Situation, Schedule, waiting}
use Rattle.landing_rules.specs.Rules.{is_within, is_open, last_second, greatest, delay, objective, IsFeasible}
use Rattle.landing_rules.specs.Rules.{IsBest}
use Rattle.landing_rules.specs.Events.{frozen_landings}
use Rattle.std.proofs.lemmas.List.Sums.{sum_by-cons}
use Rattle.std.proofs.lemmas.Slice.Zip.{length-zip, get_or-zip}
use Rattle.landing_rules.specs.Problem as lists'
use Rattle.precedence.specs.Pairs.{must_precede}
use Rattle.landing_rules.specs.Sound.{IsSound}
use Rattle.cps_theory.specs.RankLists.{In, IsRank, upto, of_rank, numbers_from}
use Rattle.cps_theory.specs.NumberedSituation as numbers
use Rattle.cps_theory.specs.Freeze.{rank_in}
use Rattle.cps_theory.specs.laws.Members.{in_filter, filter_in}
use Rattle.cps_theory.specs.laws.ProblemOfSituation.{rank_is, problem_feasible, feasible_problem}
use Rattle.landing_joint.specs.Numbered.{nobody, numbered, second_of, numbers_of, waits_at, comes_before}
use Rattle.landing_joint.specs.Numbered.{numbered_situation}
use Rattle.landing_joint.specs.RankedProblem.{no_waiting, after_last, ranked}
use Rattle.landing_joint.specs.ByNumber.{numbers_by_rank, number_at, joined}
use Rattle.landing_joint.specs.shared.RankedLists.{each_at, list_feasible, feasible_list, feasible_agree}
use Rattle.landing_joint.proofs.Numbered.{landing_at, landings_are}
use Rattle.landing_joint.proofs.Joint.{active_are, sound_numbered, feasible_numbered, numbered_feasible}
use Rattle.landing_joint.specs.shared.OpenDays.{open_low}
use Rattle.landing_joint.proofs.ByNumber.{sorted_in, in_sorted, sorted_permutes, sorted_ordered, map_sorted, slice_map}
use Rattle.landing_joint.proofs.ByNumber.{last_frozen_is}
use Rattle.cps_theory.specs.laws.ByRank.{ranks_permute, at_in, in_at, ordered_at, get_past, zip_at, zip_long}
use Rattle.cps_theory.specs.laws.NumberedLists.{map_map, filter_map_is, in_numbers, numbers_in}
use Rattle.cps_theory.specs.laws.RanksBelow.{in_upto}
use Rattle.cps_theory.specs.laws.WholeObjective.{sum_agree}
use Rattle.std.proofs.lemmas.List.{length-map, get_or-map}
use Rattle.std.proofs.lemmas.Grind.{same_number_lists}
use Rattle.landing_joint.specs.shared.FirstBestLists.{numbers_get, numbers_long}
use Rattle.landing_joint.specs.shared.BestLists.{sum_map}

sum_parts : (g : ℕ → ℕ) (p : ℕ → Bool) (xs : List ℕ)
    → sum_by g xs ≡ sum_by g (filter (λ x. not (p x)) xs) + sum_by g (filter p xs)
sum_parts g p [] = omega arith
sum_parts g p (x ∷ xs) = grind (arith, cases_Bool, sum_by-cons, sum_parts g p xs)

filter_numbers : (p : ℕ → Bool) (b n : ℕ) → filter p (numbers_from (suc b) n) ≡ map suc
    (filter (λ i. p (suc i)) (numbers_from b n))
filter_numbers p b zero = refl
filter_numbers p b (suc n) = let h =
    filter_numbers p _ n in elim (cases_Bool (p (suc b))) [
      | inl e ↦ rw e (ap (λ l. suc b ∷ l) h)
      | inr e ↦ rw e h
    ]

-- the frozen landings are those of the frozen numbers
frozen_are : (all : List Active) → filter_map (λ a. option_map (landing a) a.frozen) all ≡ map
    (λ i. landing (numbered all i) (unwrap_or (numbered all i).frozen 0))
    (filter (λ i. not (waits_at all i)) (numbers_of all))
frozen_are [] = refl
frozen_are (a ∷ all) = grind (arith, filter_numbers, map_map, not, frozen_are all)

module _ (s : Situation) (sound : IsSound s) (p : lists'.Problem) (of : lists'.IsProblemOf s p) where
  abbrev ns : numbers.NumberedSituation
  ns = numbered_situation s

  abbrev R : List ℕ
  R = numbers_by_rank s.active (numbered_situation s).waiting

  abbrev at : ℕ → ℕ
  at r = number_at s r

  abbrev fl : ℕ → lists'.Waiting
  fl r = of_rank no_waiting p.flights r

  ranked_is : lists'.by_rank (waiting s) ≡ map (numbered s.active) R
  ranked_is = ap lists'.by_rank (ap (filter _) (active_are s.active)
      ∙ filter_map_is _ _ (numbers_of s.active)) ∙ sym (map_sorted _ ns.waiting)

  zipped : AllZip (lists'.IsWaitingOf s.closures) (map (numbered s.active) R) p.flights
  zipped = rw ranked_is at of.flights

  long_is : length R ≡ length p.flights
  long_is = sym (length-map R _) ∙ zip_long _ _ _ zipped

  waiting_of : (r : ℕ) → IsRank (length p.flights) r → lists'.IsWaitingOf s.closures (numbered s.active (at r)) (fl r)
  waiting_of zero q = absurd (omega (arith, q.0))
  waiting_of (suc i) q =
      let l = long_is in
      let lt : i < length R = omega arith in
      let m = length-map R (numbered s.active) in
      subst (λ a. lists'.IsWaitingOf s.closures a (fl (suc i))) (get_or-map _ R i _ _ lt)
      (zip_at _ _ _ zipped i nobody _ (omega arith))

  rank_cases : (r : ℕ) → IsRank (length p.flights) r ⊎ ((numbered s.active (at r) ≡ nobody) × (fl r ≡ no_waiting))
  rank_cases r = grind (arith, get_past, cases_lt, long_is)

  in_waiting : (r : ℕ) → IsRank (length p.flights) r → In (at r) ns.waiting
  in_waiting r q = let l = long_is in sorted_in s.active _ _ (at_in _ R r q.0 (omega arith))

  pub among : (r : ℕ) → IsRank (length p.flights) r → In (at r) (numbers_of s.active)
  among r q = (in_filter _ _ _ (in_waiting r q)).0

  category_is : (r : ℕ) → (fl r).category ≡ (numbered s.active (at r)).flight.category
  category_is r = grind (arith, rank_cases, waiting_of)

  passed_is : (r : ℕ) → (fl r).passed ≡ (numbered s.active (at r)).passed
  passed_is r = grind (arith, rank_cases, waiting_of)

  open_is : (r u : ℕ) → list_any (is_within u) (fl r).open_spans ≡ (nat_le u last_second
      && is_open (numbered s.active (at r)).flight.windows s.closures u)
  open_is r u =
      grind (arith, common_steps, rank_cases, in_numbers, among, waiting_of, and_from, open_low, and_parts, and_right)

  before_is : (q r : ℕ) → IsRank (length p.flights) q → IsRank (length p.flights) r
      → must_precede p.pairs q r ≡ ns.lists (at q) (at r)
  before_is (suc i) (suc j) iq ir =
      let l = long_is in
      let c = (rw ranked_is at of.predecessors) i j (numbered s.active (at (suc i))) (numbered s.active (at (suc j)))
      (slice_map _ R i _ (omega arith)) (slice_map _ R j _ (omega arith)) in
      rw (add-one i) at (rw (add-one j) at c)
  before_is q r iq ir = grind arith

  apart_is : (q r : ℕ) → separation p.table (fl q).category (fl r).category ≡ ns.apart (at q) (at r)
  apart_is q r = grind (arith, category_is)

  start_of : (r : ℕ) → ((p.last ≡ None) × ((i : ℕ) → In i ns.frozen → ⊥))
      ⊎ ((i : ℕ) × In i ns.frozen × (after_last p.table p.last (fl r).category ≡ ns.frozen_at i + ns.apart i (at r))
      × ((j : ℕ) → In j ns.frozen → ns.frozen_at j ≤ ns.frozen_at i))
  start_of r = grind (arith, last_frozen_is, category_is)

  one_latest : (x i : ℕ) → In x ns.frozen → In i ns.frozen
      → ((f : ℕ) → In f ns.frozen → ns.frozen_at f ≤ ns.frozen_at x)
      → ((f : ℕ) → In f ns.frozen → ns.frozen_at f ≤ ns.frozen_at i) → x ≡ i
  one_latest x i mx mi lx li = elim (cases_eq x i) [
    | inl e ↦ e
    | inr ne ↦ absurd (let a = (sound_numbered s sound).frozen_apart x i mx mi ne (li x mx) in
        omega arith)
  ]

  pub problem_of : numbers.ProblemOf (numbered_situation s) (ranked p) (number_at s)
  problem_of = record {
    most_is = of.k;
    back_is = λ r. ap₂ (λ (x y : ℕ). x - y) of.k (passed_is r);
    open_is = open_is;
    apart_is = apart_is;
    before_is = before_is;
    start_low = λ r t le. (
      (omega (arith, of.horizon)),
      λ x i late. elim (start_of r) [
        | inl e ↦ absurd (e.1 x i)
        | inr w ↦ subst (λ z. ns.frozen_at z + ns.apart z (at r) ≤ t) (sym (one_latest x w.0 i w.1 late w.3))
            (omega arith)
      ],
    );
    start_high = λ r t low late. elim (start_of r) [
      | inl e ↦ (let b = ap (λ o. after_last p.table o (fl r).category) e.0 in omega arith)
      | inr w ↦ (omega arith)
    ];
    at_in = in_waiting;
    at_all = λ f i. let w = in_at (length s.active) R f (in_sorted s.active f ns.waiting i) in grind (arith, long_is);
    at_order = λ q r iq ir lt.
        let l = long_is in
        ordered_at (comes_before s.active) (length s.active) R
        (sorted_ordered s sound ns.waiting (λ j m. (in_filter (waits_at s.active) j (numbers_of s.active) m).0)
        (sound_numbered s sound).differ) q r iq.0 lt (omega arith);
    permuted = subst (λ n. IsPermutation (map (number_at s) (upto n)) ns.waiting) long_is
        (IsPermutation-trans (map (number_at s) (upto (length R))) R ns.waiting (ranks_permute (length s.active) R)
        (IsPermutation-sym ns.waiting R (sorted_permutes s.active ns.waiting)));
  }

  pub passed_low' : (r : ℕ) → IsRank (length p.flights) r → (fl r).passed ≤ p.k
  passed_low' r q = grind (arith, common_steps, in_numbers, among, passed_is)

  -- ---- joined with the frozen

  pub joined_at : (v : Schedule) (i : ℕ) → In i (numbers_of s.active)
      → second_of (joined s v) i ≡ cond (waits_at s.active i)
      (of_rank 0 v (rank_in (comes_before s.active) ns.waiting i))
      (ns.frozen_at i)
  joined_at v i m = grind (arith, in_numbers, numbers_get)

  pub joined_frozen : (v : Schedule) (i : ℕ) → In i ns.frozen → second_of (joined s v) i ≡ ns.frozen_at i
  joined_frozen v i m = grind (arith, in_filter, joined_at, not-true)

  pub joined_rank : (v : Schedule) (r : ℕ) → IsRank (length p.flights) r → second_of (joined s v) (at r) ≡ of_rank 0 v r
  joined_rank v r q =
      let w = in_filter _ _ _ (in_waiting r q) in
      joined_at v _ w.0 ∙ ap (λ b. cond b (of_rank 0 v (rank_in (comes_before s.active) ns.waiting (at r)))
      (ns.frozen_at (at r))) w.1 ∙ ap (of_rank 0 v) (rank_is ns _ _ (sound_numbered s sound) problem_of r q)

  -- a feasible list gives a feasible schedule
  pub list_gives_schedule : (v : Schedule) → lists'.IsFeasibleList p v → IsFeasible s (joined s v)
  list_gives_schedule v f =
      search (
        feasible_agree,
        joined_rank,
        list_feasible,
        numbered_feasible,
        numbers_long,
        feasible_problem,
        sound_numbered,
        problem_of,
        joined_frozen,
      )

  -- ---- and back

  abbrev seconds_by_rank : Schedule → Schedule
  seconds_by_rank t = map (λ i. second_of t (at (suc i))) (numbers_from 0 (length p.flights))

  by_rank_at : (t : Schedule) (r : ℕ) → IsRank (length p.flights) r
      → of_rank 0 (seconds_by_rank t) r ≡ second_of t (at r)
  by_rank_at t r q = grind (arith, numbers_get)

  pub joined_long : (v : Schedule) → length (joined s v) ≡ length s.active
  joined_long v = numbers_long _ 0 _

  -- what holds of a number that waits, by its rank, and of a frozen one, holds of each
  pub each_number : (P : ℕ → Type 0) → ((r : ℕ) → IsRank (length p.flights) r → P (at r))
      → ((i : ℕ) → In i ns.frozen → P i) → (i : ℕ) → In i (numbers_of s.active) → P i
  each_number P w f i m = elim (cases_Bool _) [
    | inl e ↦ (let x = problem_of.at_all i (filter_in _ i _ m e) in
        rw x.2 at (w x.0 x.1))
    | inr e ↦ f i (filter_in _ i _ m (ap not e))
  ]

  -- a feasible schedule is its frozen landings joined with a feasible list
  pub schedule_gives_list : (t : Schedule) → IsFeasible s t → (v : Schedule) × lists'.IsFeasibleList p v
      × (t ≡ joined s v)
  schedule_gives_list t f =
      let v = seconds_by_rank t in
      let n = feasible_numbered s sound t f.0 f in
      let g = problem_feasible ns _ _ (sound_numbered s sound) problem_of _ n in
      let long = numbers_long _ 0 _ in
      let same =
      each_number _ (λ r q. sym (joined_rank v r q ∙ by_rank_at t r q))
      (λ i m. n.kept i m ∙ sym (joined_frozen v i m)) in (
        v,
        feasible_list p passed_low' v long (feasible_agree _ _ _ (λ r q. sym (by_rank_at t r q)) g),
        same_number_lists t _ (f.0 ∙ sym (joined_long v)) (λ i lt. same i (numbers_in 0 _ i zero-le (omega arith))),
      )

  -- ---- the objectives

  greatest_bound : (xs : List ℕ) (m : ℕ) → ((i : ℕ) → i < length xs → get_or xs i 0 ≤ m) → greatest xs ≤ m
  greatest_bound [] m h = zero-le
  greatest_bound (x ∷ xs) m h = let a = h 0 (omega arith) in let b =
      greatest_bound xs m (λ i lt. h (suc i) (omega arith)) in omega arith

  greatest_at : (xs : List ℕ) (i : ℕ) → i < length xs → get_or xs i 0 ≤ greatest xs
  greatest_at [] i lt = grind arith
  greatest_at (x ∷ xs) i lt = grind (arith, greatest_at xs)

  map_bound : (F : ℕ → ℕ) (xs : List ℕ) (m : ℕ) → ((i : ℕ) → In i xs → F i ≤ m) → greatest (map F xs) ≤ m
  map_bound F [] m h = zero-le
  map_bound F (x ∷ xs) m h = let a = h x (inl refl) in let b = map_bound F xs m (λ i k. h i (inr k)) in omega arith

  map_at : (F : ℕ → ℕ) (xs : List ℕ) (i : ℕ) → In i xs → F i ≤ greatest (map F xs)
  map_at F [] i m = absurd m
  map_at F (x ∷ xs) i m = grind (arith, map_at F xs)

  module _ (v : Schedule) (f : lists'.IsFeasibleList p v) where
    T : ℕ → ℕ
    T = second_of (joined s v)

    makespan_some : (x : ℕ) (xs : List ℕ) → v ≡ x ∷ xs
        → greatest (map (second_of (joined s v)) (numbers_of s.active)) ≡ greatest v
    makespan_some x xs e =
        let some = ap length e in
        let one : IsRank (length p.flights) 1 = omega arith in
        let r1 = greatest_at v 0 (omega arith) in
        let late = each_at p v (λ r w a. p.horizon ≤ a) f.late 1 one in
        le_antisymm (map_bound _ _ _ (each_number _
        (λ r q. let a = joined_rank v r q in let b = at_greatest r q in omega arith)
        (λ i m. let a = joined_frozen v i m in let b = (sound_numbered s sound).frozen_before i m in omega arith)))
        (greatest_bound v _ (λ i lt.
        let q : IsRank (length p.flights) (suc i) = omega arith in
        let a = joined_rank v _ q in
        let b = map_at (second_of (joined s v)) _ _ (among _ q) in
        omega arith))
      where
        at_greatest : (r : ℕ) → IsRank (length p.flights) r → of_rank 0 v r ≤ greatest v
        at_greatest r q = grind (arith, greatest_at)

    makespan_none : v ≡ [] → greatest (map (second_of (joined s v)) (numbers_of s.active)) ≡ lists'.last_frozen p.last
    makespan_none e =
        let none = ap length e in
        elim (last_frozen_is s sound) [
          | inl x ↦ le_antisymm (map_bound _ _ _ (each_number _
              (λ r q. absurd (omega arith)) (λ i m. absurd (x.1 i m))))
              (omega (arith, ap lists'.last_frozen (of.last ∙ x.0)))
          | inr x ↦
              (let last = ap lists'.last_frozen (of.last ∙ x.2) in
              let j = joined_frozen v x.0 x.1 in
              let m = map_at (second_of (joined s v)) (numbers_of s.active) x.0 (in_filter _ x.0 _ x.1).0 in
              le_antisymm (map_bound _ _ _ (each_number _ (λ r q. absurd (omega arith)) (λ i k. let a =
              joined_frozen v i k in omega arith))) (omega arith))
        ]

    -- ---- the delay

    delay_all : sum_by delay (map (landing_at s.active (joined s v)) (numbers_of s.active)) ≡ sum_by delay
        (frozen_landings s) + sum_by lists'.list_delay (zip p.flights v)
    delay_all =
        let D = λ (i : ℕ). delay (landing_at s.active (joined s v) i) in
        let N = numbers_of s.active in
        let parts = sum_parts D _ N in
        let froze =
        sum_agree D _ _ (λ i m. ap (λ u. delay (landing (numbered s.active i) u)) (joined_frozen v i m))
        ∙ sym (sum_map _ _ ns.frozen) ∙ ap (sum_by delay) (sym (frozen_are s.active)) in
        let d : lists'.Waiting × ℕ = (no_waiting, 0) in
        let z = zip p.flights v in
        let n = length p.flights in
        let long : length z ≡ n = let a = length-zip p.flights v in omega arith in
        let waits = sum_by-IsPermutation D _ _ problem_of.permuted ∙ sum_map D at (upto n) in
        let listed =
        sum_by-IsPermutation _ _ z (ranks_permute d z)
        ∙ ap (λ k. sum_by lists'.list_delay (map (of_rank d z) (upto k))) long ∙ sum_map _ _ (upto n) in
        let same = sum_agree _ _ _ (λ r i. one r (in_upto n r i)) in
        sum_map _ _ N ∙ parts ∙ ap₂ ◌+◌ froze (cc)
      where
        one : (r : ℕ) → IsRank (length p.flights) r
            → delay (landing_at s.active (joined s v) (at r)) ≡ lists'.list_delay
            (of_rank (no_waiting, 0) (zip p.flights v) r)
        one zero q = omega arith
        one (suc i) q =
            let w = waiting_of _ q in
            ap₂ (λ (u : ℕ) (w : ℕ). (numbered s.active (at (suc i))).flight.weight * (u - w))
            (joined_rank v _ q) (sym w.eta) ∙ ap (λ k. k * (of_rank 0 v (suc i) - (fl (suc i)).eta)) (sym w.weight)
            ∙ ap lists'.list_delay (sym (get_or-zip _ v i (no_waiting, 0) (omega arith) (omega arith)))

    pub same_objective : objective s (joined s v) ≡ lists'.list_objective p v
    same_objective =
        grind (arith, landings_are, joined_long, landing_at, delay_all, map_map, makespan_none, makespan_some)

  -- the best lists give the best schedules
  pub best_list_schedule : (v : Schedule) → lists'.IsBestList p v → IsBest s (joined s v)
  best_list_schedule v b = record {
    feasible = list_gives_schedule v b.feasible;
    least = grind (arith, schedule_gives_list, same_objective);
  }
