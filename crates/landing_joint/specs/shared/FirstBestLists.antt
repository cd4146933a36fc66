-- A list of seconds by rank lands its ranks in the order of its map, and is the first best one where its map is. There
-- is a first best list where one is feasible, and it is one.
use Rattle.std.proofs.Common.{◌≡◌, ◌≢◌, ℕ, zero, suc, ◌+◌, ◌<◌, ◌≤◌, List, [], ◌∷◌, length, get_or, map}
use Rattle.std.proofs.Common.{max, true, add-one, arith, refl, sym, ap, ap₂, subst, ◌∙◌}
use Rattle.std.proofs.Math.Nat.{mul-le-mul_left}
use Rattle.std.specs.declared.cmp.Ordering.{Ordering}
use Rattle.std.specs.declared.cmp.Ordering.TheVariants.{Less, Equal, Greater}
use Rattle.std.specs.Ordering.{ordering_reverse, is_le, is_eq}
use Rattle.std.proofs.lemmas.Bool.{false≢true}
use Rattle.std.proofs.lemmas.List.{map-id}
use Rattle.std.proofs.lemmas.Cmp.{nat_list_cmp_total}
use Rattle.std.proofs.lemmas.Map.Text.{is_eq-slice_cmp}
use Rattle.std.proofs.lemmas.Slice.Eq.{bytes_eq-Decides}
use Rattle.landing_rules.specs.Flights.{Schedule}
use Rattle.landing_rules.specs.Rules as rules
use Rattle.landing_rules.specs.declared.objective.Objective.{Objective}
use Rattle.landing_rules.specs.declared.objective.Objective.TheVariants.{Makespan, Delay}
use Rattle.landing_rules.specs.Problem as lists'
use Rattle.landing_rules.specs.FirstBest.{ComesNoLater, IsFirstBestList, order_of_list, ranks_from, second_at}
use Rattle.cps_theory.specs.RankLists.{In, Distinct, IsRank, of_rank, numbers_from, upto}
use Rattle.cps_theory.specs.Feasible.{Feasible, IsBest, SameOrder, SoundProblem, Tight, greatest, total}
use Rattle.cps_theory.specs.CompletingPairs.{NoGreaterOrder, onto}
use Rattle.cps_theory.specs.FirstBest.{Ascends, FirstBest, InLandingOrder}
use Rattle.cps_theory.specs.laws.Continuations.{onto_twice}
use Rattle.cps_theory.specs.Labels.{NeverCheaper, NoWorse, Pair}
use Rattle.cps_theory.specs.laws.FirstBestExists.{first_best_exists}
use Rattle.cps_theory.specs.laws.NumberedLists.{in_numbers, numbers_in, distinct_numbers}
use Rattle.cps_theory.specs.laws.OrderBySeconds.{in_order_sorted}
use Rattle.landing_joint.specs.RankedProblem.{no_waiting, ranked, value_at, value_by, value_of_map, cost_at, cost_by}
use Rattle.landing_joint.specs.RankedProblem.{makespan_by}
use Rattle.landing_joint.specs.shared.FirstOpen.{is_first_open}
use Rattle.landing_joint.specs.shared.RankedLists.{list_feasible, feasible_list, feasible_agree}
use Rattle.landing_joint.specs.shared.BestLists.{best_list, tight_list, list_value, zip_rank, zip_same}
use Rattle.landing_joint.specs.shared.SortedBySeconds.{in_sorted_by, sorted_by_in, sorted_by_ascends, map_ascends}
use Rattle.landing_joint.specs.shared.SortedBySeconds.{ascends_same}

-- ---- orders of ranks

-- no greater order comes no later
pub no_greater_no_later : (xs ys : List ℕ) → NoGreaterOrder xs ys → ComesNoLater xs ys
no_greater_no_later [] ys n = grind arith
no_greater_no_later (x ∷ xs) ys n = grind (arith, no_greater_no_later xs)

-- two orders of which none comes later are one
pub no_later_antisym : (xs ys : List ℕ) → ComesNoLater xs ys → ComesNoLater ys xs → xs ≡ ys
no_later_antisym xs ys a b = (bytes_eq-Decides xs ys).0 (sym (is_eq-slice_cmp xs ys)
    ∙ ap is_eq (go _ _ (nat_list_cmp_total.antisymm ys xs) a b))
  where
    go : (o r : Ordering) → r ≡ ordering_reverse o → is_le o ≡ true → is_le r ≡ true → o ≡ Equal
    go Less r e h k = cc
    go Equal r e h k = refl
    go Greater r e h k = absurd (false≢true h)

-- ---- the order of a list

ranks_are : (r : ℕ) (us : List ℕ) → ranks_from r us ≡ numbers_from r (length us)
ranks_are r [] = refl
ranks_are r (u ∷ us) = ap (λ l. r ∷ l) (ap (λ q. ranks_from q us) (add-one r) ∙ ranks_are _ us)

pub second_is : (v : Schedule) (r : ℕ) → 1 ≤ r → second_at v r ≡ of_rank 0 v r
second_is v r q = grind arith

module _ (p : lists'.Problem) (sound : SoundProblem (ranked p)) where
  in_ranks : (v : Schedule) → length v ≡ length p.flights → (r : ℕ) → In r (ranks_from 1 v)
      → IsRank (length p.flights) r
  in_ranks v long r i = grind (arith, in_numbers, ranks_are)

  ranks_in : (v : Schedule) → length v ≡ length p.flights → (r : ℕ) → IsRank (length p.flights) r
      → In r (ranks_from 1 v)
  ranks_in v long r q = rw (ranks_are 1 v) (numbers_in 1 _ r q.0 (omega arith))

  differ : (t : ℕ → ℕ) → Feasible (ranked p) t → (q r : ℕ) → IsRank (length p.flights) q → IsRank (length p.flights) r
      → q ≢ r → t q ≢ t r
  differ t f q r iq ir ne e = omega (arith, sound.positive q r)

  -- the ranks as a feasible list lands them
  pub list_in_landing_order : (v : Schedule) → lists'.IsFeasibleList p v
      → InLandingOrder (length p.flights) (of_rank 0 v) (order_of_list v)
  list_in_landing_order v f =
      let t = second_at v in
      let rs = ranks_from 1 v in
      let long = f.one_each in
      let g = list_feasible p v f in
      let d = subst Distinct (sym (ranks_are 1 v)) (distinct_numbers 1 _) in
      let ne : (q r : ℕ) → In q rs → In r rs → q ≢ r → t q ≢ t r = λ q r i j n e.
      let iq = in_ranks v long q i in
      let ir = in_ranks v long r j in
      differ _ g q r iq ir n (sym (second_is v q iq.0) ∙ e ∙ second_is v r ir.0) in
      record {
        ranked = λ x i. in_ranks v long x (in_sorted_by t x rs i);
        whole = λ x q. sorted_by_in t x rs (ranks_in v long x q);
        ascends = subst (Ascends (of_rank 0 v)) (map-id (order_of_list v))
            (map_ascends t (of_rank 0 v) (λ x. x) (order_of_list v)
            (λ x i. sym (second_is v x (in_ranks v long x (in_sorted_by t x rs i)).0)) (sorted_by_ascends t rs d ne));
      }

  -- there is one such order
  pub one_landing_order : (t : ℕ → ℕ) → Feasible (ranked p) t → (qs os : List ℕ)
      → InLandingOrder (length p.flights) t qs → InLandingOrder (length p.flights) t os → qs ≡ os
  one_landing_order t f qs os a b =
      let e = in_order_sorted _ t sound f qs a ∙ sym (in_order_sorted _ t sound f os b) in
      sym (onto_twice qs []) ∙ ap (λ l. onto l []) e ∙ onto_twice os []

-- ---- a map as a list

abbrev pub list_of : ℕ → (ℕ → ℕ) → Schedule
list_of n t = map t (numbers_from 1 n)

pub numbers_long : {X : Type 0} (t : ℕ → X) (b n : ℕ) → length (map t (numbers_from b n)) ≡ n
numbers_long t b zero = refl
numbers_long t b (suc n) = ap suc (numbers_long t _ n)

pub numbers_get : {X : Type 0} (t : ℕ → X) (d : X) (b n i : ℕ) → i < n
    → get_or (map t (numbers_from b n)) i d ≡ t (b + i)
numbers_get t d b (suc n) (suc i) lt = numbers_get t d _ n i (omega arith) ∙ ap t (omega arith)
numbers_get t d b n i lt = grind arith

pub list_of_long : (n : ℕ) (t : ℕ → ℕ) → length (list_of n t) ≡ n
list_of_long n t = numbers_long t 1 n

pub list_of_at : (n : ℕ) (t : ℕ → ℕ) (r : ℕ) → IsRank n r → of_rank 0 (list_of n t) r ≡ t r
list_of_at n t r q = grind (arith, numbers_get)

greatest_agree : (n : ℕ) (t u : ℕ → ℕ) → ((r : ℕ) → IsRank n r → t r ≡ u r) → greatest t n ≡ greatest u n
greatest_agree zero t u h = refl
greatest_agree (suc n) t u h = ap₂ max (omega arith) (greatest_agree n t u (λ r q. h r (omega arith)))

total_agree : (cost : ℕ → ℕ → ℕ) (n : ℕ) (t u : ℕ → ℕ) → ((r : ℕ) → IsRank n r → t r ≡ u r)
    → total (λ r. cost r (t r)) (upto n) ≡ total (λ r. cost r (u r)) (upto n)
total_agree cost zero t u h = refl
total_agree cost (suc n) t u h = grind (arith, total_agree cost n)

pub value_agree : (p : lists'.Problem) (t u : ℕ → ℕ) → ((r : ℕ) → IsRank (length p.flights) r → t r ≡ u r)
    → value_of_map p t ≡ value_of_map p u
value_agree p t u h = ap₂ (λ x y. value_at p (x, y)) (greatest_agree _ t u h) (total_agree (cost_at p) _ t u h)

-- ---- costs and values

pub cost_rises : (o : Objective) (f : lists'.Waiting) (t u : ℕ) → t ≤ u → cost_by o f t ≤ cost_by o f u
cost_rises Makespan f t u le = omega arith
cost_rises Delay f t u le = mul-le-mul_left _ (omega arith)

-- a later landing of a flight costs no less
pub costs_rise : (p : lists'.Problem) → NeverCheaper (cost_at p)
costs_rise p = record { mono = λ r t u le. cost_rises p.objective (of_rank no_waiting p.flights r) t u le }

last_rises : (p : lists'.Problem) (fs : List lists'.Waiting) (t u : ℕ) → t ≤ u → makespan_by fs p t ≤ makespan_by fs p u
last_rises p fs t u le = grind arith

pub value_rises_by : (p : lists'.Problem) (o : Objective) (a b : Pair) → NoWorse a b → value_by o p a ≤ value_by o p b
value_rises_by p Makespan a b le = last_rises p _ a.0 b.0 le.0
value_rises_by p Delay a b le = omega (arith, le.1)

-- a pair that is no worse has no greater value
pub value_rises : (p : lists'.Problem) (a b : Pair) → NoWorse a b → value_at p a ≤ value_at p b
value_rises p a b le = value_rises_by p _ a b le

-- ---- best and tight lists

module _ (p : lists'.Problem) (sound : SoundProblem (ranked p)) (passed : (r : ℕ) → IsRank (length p.flights) r
    → (of_rank no_waiting p.flights r).passed ≤ p.k) where
  listed : (u : ℕ → ℕ) → Feasible (ranked p) u → lists'.IsFeasibleList p (list_of (length p.flights) u)
  listed u f = feasible_list p passed _ (list_of_long _ u) (feasible_agree _ u _ (λ r q. sym (list_of_at _ u r q)) f)

  -- the map of a best list is best
  pub list_best : (v : Schedule) → lists'.IsBestList p v → IsBest (ranked p) (value_of_map p) (of_rank 0 v)
  list_best v b = record {
    feasible = list_feasible p v b.feasible;
    least = λ u f.
        let w = list_of (length p.flights) u in
        let le = b.least w (listed u f) in
        let here = list_value p v b.feasible.one_each in
        let there = list_value p w (list_of_long (length p.flights) u) in
        let same = value_agree p (of_rank 0 w) u (list_of_at (length p.flights) u) in
        omega arith;
  }

  order_listed : (v : Schedule) (u : ℕ → ℕ) → length v ≡ length p.flights → SameOrder (length p.flights) (of_rank 0 v) u
      → rules.HaveSameOrder v (list_of (length p.flights) u)
  order_listed v u long same i j li lj =
      let qi : IsRank (length p.flights) (suc i) = omega arith in
      let qj : IsRank (length p.flights) (suc j) = omega arith in
      let ei = list_of_at _ u _ qi in
      let ej = list_of_at _ u _ qj in
      let o = same (suc i) (suc j) qi qj in
      (λ lt. omega (arith, ei, ej, o.0 lt), λ lt. o.1 (omega (arith, ei, ej, lt)))

  -- the map of a tight list is tight
  pub list_tight : (v : Schedule) → lists'.IsTightList p v → Tight (ranked p) (of_rank 0 v)
  list_tight v t = record {
    feasible = list_feasible p v t.feasible;
    least = λ u f same r q.
        let w = list_of (length p.flights) u in
        let long = t.feasible.one_each in
        let a = zip_rank v w (t.earliest w (listed u f) (order_listed v u long same)) r (q.0, omega arith) in
        let e = list_of_at (length p.flights) u r q in
        omega arith;
  }

  -- a list whose map is the first best one is the first best one
  pub first_best_list : (v : Schedule) → length v ≡ length p.flights
      → FirstBest (ranked p) (value_of_map p) (of_rank 0 v) → IsFirstBestList p v
  first_best_list v long b =
      grind (arith, best_list, tight_list, no_greater_no_later, list_best, list_tight, list_in_landing_order)

  -- ---- there is one

  -- lists that land in one order of ranks land alike
  order_alike : (v w : Schedule) → lists'.IsFeasibleList p v → lists'.IsFeasibleList p w
      → order_of_list v ≡ order_of_list w → rules.HaveSameOrder v w
  order_alike v w f g e i j li lj =
      let iv = list_in_landing_order p sound v f in
      let iw = list_in_landing_order p sound w g in
      let mi = iv.whole (suc i) (omega arith, omega arith) in
      let mj = iv.whole (suc j) (omega arith, omega arith) in grind (arith, ascends_same)

  pub first_best_list_is_one : (v w : Schedule) → IsFirstBestList p v → IsFirstBestList p w → v ≡ w
  first_best_list_is_one v w a b =
      search (
        arith,
        no_later_antisym,
        zip_same,
        order_alike,
        a.first,
        b.best,
        b.tight,
        b.first,
        a.best,
        a.tight,
        a.tight.earliest,
        b.tight.feasible,
        a.tight.feasible,
        b.tight.earliest,
      )

  -- a first best map, as a list
  pub first_best_listed : (u : ℕ → ℕ) → FirstBest (ranked p) (value_of_map p) u
      → IsFirstBestList p (list_of (length p.flights) u)
  first_best_listed u b =
      let n = length p.flights in
      let v = list_of n u in
      let at = list_of_at n u in
      let back : (r : ℕ) → IsRank n r → u r ≡ of_rank 0 v r = λ r q. sym (at r q) in
      first_best_list v (list_of_long n u) (record {
        best = record {
          feasible = feasible_agree (ranked p) u (of_rank 0 v) back b.best.feasible;
          least = λ w f. omega (arith, value_agree p (of_rank 0 v) u at);
        };
        tight = grind (arith, feasible_agree);
        least = λ w bw tw qs os oq ow. b.least w bw tw qs os (record {
          ranked = oq.ranked;
          whole = oq.whole;
          ascends = subst (Ascends u) (map-id qs) (map_ascends (of_rank 0 v) u (λ x. x) qs
              (λ x i. sym (at x (oq.ranked x i))) oq.ascends);
        }) ow;
      })

  -- where a list is feasible there is a first best one
  pub first_best_list_exists : (v : Schedule) → lists'.IsFeasibleList p v → (w : Schedule) × IsFirstBestList p w
  first_best_list_exists v f =
      let u = first_best_exists _ sound _ (is_first_open p) _
      (costs_rise p) _ (value_rises p) _ (list_feasible p v f) in
      (list_of (length p.flights) u.0, first_best_listed u.0 u.1)
