-- The schedule that joins the frozen landings with a list of seconds by rank, in the rules' words and over
-- numbers; and that a tight list gives a tight schedule.
use Rattle.std.proofs.Common.{◌≡◌, ℕ, suc, ◌-◌, ◌≤◌, inl, inr, List, [], ◌∷◌, length, map, filter, cond}
use Rattle.std.proofs.Common.{get_or, arith, refl, ap, ap₂, ◌∙◌, zero-le}
use Rattle.std.specs.List.{AllZip}
use Rattle.std.proofs.lemmas.List.Elements.{AllZip-get_or}
use Rattle.landing_rules.specs.Flights.{Active, Situation, Schedule, waiting}
use Rattle.landing_rules.specs.Rules.{rank, IsTight, HaveSameOrder}
use Rattle.landing_rules.specs.Problem as lists'
use Rattle.landing_rules.specs.Sound.{IsSound}
use Rattle.cps_theory.specs.RankLists.{In, IsRank, of_rank}
use Rattle.cps_theory.specs.Freeze.{rank_in}
use Rattle.cps_theory.specs.laws.Members.{in_filter}
use Rattle.landing_joint.specs.Numbered.{numbered, second_of, numbers_of, waits_at, comes_before, numbered_situation}
use Rattle.landing_joint.specs.shared.BestLists.{zip_of}
use Rattle.landing_joint.specs.ByNumber.{number_at, joined}
use Rattle.landing_joint.proofs.Joint.{active_are, comes_is}
use Rattle.landing_joint.proofs.Problem.{joined_frozen, joined_rank, joined_long, each_number, list_gives_schedule}
use Rattle.landing_joint.proofs.Problem.{schedule_gives_list, among}
use Rattle.cps_theory.specs.laws.NumberedLists.{count_by_map, count_by_agree, map_map, filter_map_is, in_numbers}
use Rattle.cps_theory.specs.laws.NumberedLists.{numbers_in}

pub map_agree : {X : Type 0} (f g : ℕ → X) (xs : List ℕ) → ((i : ℕ) → In i xs → f i ≡ g i) → map f xs ≡ map g xs
map_agree f g [] h = refl
map_agree f g (x ∷ xs) h = ap₂ (λ y l. y ∷ l) (h x (inl refl)) (map_agree f g xs (λ i m. h i (inr m)))

module _ (s : Situation) (sound : IsSound s) where
  waiting_are : map (λ (b : Active). b.flight) (waiting s) ≡ map (λ i. (numbered s.active i).flight)
      (numbered_situation s).waiting
  waiting_are =
      ap (λ l. map (λ (b : Active). b.flight) l) (ap (filter _) (active_are s.active)
      ∙ filter_map_is _ _ (numbers_of s.active)) ∙ map_map _ _ _

  -- the rank of a flight among the waiting flights
  pub rank_is : (i : ℕ) → In i (numbers_of s.active)
      → rank (map (λ (b : Active). b.flight) (waiting s)) (numbered s.active i).flight ≡ rank_in
      (comes_before s.active) (numbered_situation s).waiting i
  rank_is i m = grind (arith, waiting_are, count_by_map, count_by_agree, comes_is, in_filter)

  second_by : (v : Schedule) (r n : ℕ) → r ≡ suc n → get_or v (r - 1) 0 ≡ of_rank 0 v (suc n)
  second_by v r n e = ap (λ k. get_or v k 0) (omega arith)

  second_is : (v : Schedule) (i : ℕ) → In i (numbers_of s.active) → lists'.joined_second s v (numbered s.active i) ≡
      cond (waits_at s.active i) (of_rank 0 v (rank_in (comes_before s.active) (numbered_situation s).waiting i))
      ((numbered_situation s).frozen_at i)
  second_is v i m = grind (arith, second_by, rank_is)

  -- both say one schedule
  pub joined_in_words : (v : Schedule) → lists'.joined s v ≡ joined s v
  joined_in_words v = ap (map _) (active_are _) ∙ map_map _ _ _ ∙ map_agree _ _ _ (second_is v)

module _ (s : Situation) (sound : IsSound s) (p : lists'.Problem) (of : lists'.IsProblemOf s p) where
  -- the seconds of two ranks, in a list and in the schedule that it gives
  order_kept : (v w : Schedule) → length v ≡ length p.flights → HaveSameOrder (joined s v) (joined s w)
      → HaveSameOrder v w
  order_kept v w long same i j li lj =
      let qi : IsRank (length p.flights) (suc i) = omega arith in
      let qj : IsRank (length p.flights) (suc j) = omega arith in
      let bj = in_numbers 0 _ _ (among s sound p of _ qj) in
      let n = joined_long s sound p of v in
      let o = same (number_at s (suc i)) (number_at s (suc j))
      (omega (arith, (in_numbers 0 _ _ (among s sound p of _ qi)).1, n)) (omega (arith, bj.1, n)) in
      let vi = joined_rank s sound p of v _ qi in
      let vj = joined_rank s sound p of v _ qj in
      let wi = joined_rank s sound p of w _ qi in
      let wj = joined_rank s sound p of w _ qj in omega arith

  earlier_kept : (v w : Schedule) → length v ≡ length p.flights → AllZip (λ a b. a ≤ b) v w
      → AllZip (λ a b. a ≤ b) (joined s v) (joined s w)
  earlier_kept v w long le =
      let nv = joined_long s sound p of v in
      let nw = joined_long s sound p of w in
      let each = each_number s sound p of _
      (waits v w long le) (λ i m. let a = joined_frozen s sound p of v i m in let b =
      joined_frozen s sound p of w i m in omega arith) in
      zip_of _ _ (omega arith) (λ i lt. each i (numbers_in 0 _ i zero-le (omega arith)))
    where
      waits : (v w : Schedule) → length v ≡ length p.flights → AllZip (λ a b. a ≤ b) v w → (r : ℕ)
          → IsRank (length p.flights) r → second_of (joined s v) (number_at s r) ≤ second_of
          (joined s w) (number_at s r)
      waits v w long le r q = grind (arith, joined_rank, AllZip-get_or)

  -- a tight list gives a tight schedule
  pub tight_list_schedule : (v : Schedule) → lists'.IsTightList p v → IsTight s (joined s v)
  tight_list_schedule v t = record {
    feasible = list_gives_schedule s sound p of v t.feasible;
    earliest = grind (arith, schedule_gives_list, earlier_kept, order_kept);
  }
