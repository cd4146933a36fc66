-- A list of seconds by rank costs what its map does, and is best or tight where its map is.
use Rattle.std.proofs.lemmas.Grind.{common_steps}
use Rattle.std.proofs.Common.{◌≡◌, ℕ, zero, suc, ◌<◌, ◌≤◌, List, [], ◌∷◌, length, get_or, map, max, arith, refl}
use Rattle.std.proofs.Common.{sym, ap, ◌∙◌}
use Rattle.std.specs.Prelude.{sum_by}
use Rattle.std.specs.List.{AllZip, zip}
use Rattle.std.proofs.lemmas.List.Elements.{AllZip-get_or}
use Rattle.std.proofs.lemmas.List.Sums.{sum_by-cons}
use Rattle.std.proofs.lemmas.List.Sorted.{sum_by-IsPermutation}
use Rattle.std.proofs.lemmas.Slice.Zip.{length-zip, get_or-zip}
use Rattle.landing_rules.specs.declared.objective.Objective.{Objective}
use Rattle.landing_rules.specs.declared.objective.Objective.TheVariants.{Makespan, Delay}
use Rattle.landing_rules.specs.Flights.{Schedule}
use Rattle.landing_rules.specs.Rules as rules
use Rattle.landing_rules.specs.Problem as lists'
use Rattle.cps_theory.specs.RankLists.{IsRank, upto, of_rank}
use Rattle.cps_theory.specs.Feasible.{IsBest, Tight, SameOrder, greatest, total}
use Rattle.landing_joint.specs.RankedProblem.{no_waiting, ranked, cost_by, value_of_map, makespan_by}
use Rattle.landing_joint.specs.shared.RankedLists.{list_feasible, feasible_list}
use Rattle.cps_theory.specs.laws.ByRank.{ranks_permute}
use Rattle.cps_theory.specs.laws.RanksBelow.{in_upto}
use Rattle.cps_theory.specs.laws.WholeObjective.{sum_agree}

-- ---- what a list costs

greatest_shift : (x : ℕ) (xs : List ℕ) (n : ℕ)
    → greatest (of_rank 0 (x ∷ xs)) (suc n) ≡ max x (greatest (of_rank 0 xs) n)
greatest_shift x xs zero = omega arith
greatest_shift x xs (suc n) = omega (arith, greatest_shift x xs n)

greatest_is : (v : Schedule) → rules.greatest v ≡ greatest (of_rank 0 v) (length v)
greatest_is [] = refl
greatest_is (x ∷ xs) = ap (max x) (greatest_is xs) ∙ sym (greatest_shift x xs _)

total_sum : (f : ℕ → ℕ) (rs : List ℕ) → total f rs ≡ sum_by f rs
total_sum f [] = refl
total_sum f (r ∷ rs) = let a = sum_by-cons f r rs in let b = total_sum f rs in omega arith

pub sum_map : {X : Type 0} (g : X → ℕ) (F : ℕ → X) (xs : List ℕ) → sum_by g (map F xs) ≡ sum_by (λ i. g (F i)) xs
sum_map g F xs = grind (arith, common_steps, sum_by-cons)

module _ (p : lists'.Problem) (v : Schedule) (long : length v ≡ length p.flights) where
  abbrev pairs : List (lists'.Waiting × ℕ)
  pairs = zip p.flights v

  delay_one : (r : ℕ) → IsRank (length p.flights) r
      → lists'.list_delay (of_rank (no_waiting, 0) (zip p.flights v) r) ≡ cost_by Delay (of_rank no_waiting p.flights r)
      (of_rank 0 v r)
  delay_one r q = grind (arith, get_or-zip)

  delay_is : sum_by lists'.list_delay (zip p.flights v) ≡ total
      (λ r. cost_by Delay (of_rank no_waiting p.flights r) (of_rank 0 v r)) (upto (length p.flights))
  delay_is =
      let n : length pairs ≡ length p.flights = omega (arith, length-zip p.flights v) in
      let D = λ (r : ℕ). cost_by Delay (of_rank no_waiting p.flights r) (of_rank 0 v r) in
      let a = sum_by-IsPermutation _ _ _ (ranks_permute _ pairs) in
      let b =
      sum_map _ _ (upto (length pairs))
      ∙ ap (λ k. sum_by (λ r. lists'.list_delay (of_rank (no_waiting, 0) pairs r)) (upto k)) n in
      let c = sum_agree _ D _ (λ r i. delay_one r (in_upto _ r i)) in
      a ∙ b ∙ c ∙ sym (total_sum D _)

  -- a list costs what its map does
  pub list_value : lists'.list_objective p v ≡ value_of_map p (of_rank 0 v)
  list_value = go _ refl
    where
      makespan_is : (fs : List lists'.Waiting) → length v ≡ length fs
          → lists'.list_cost Makespan p v ≡ makespan_by fs p (greatest (of_rank 0 v) (length fs))
      makespan_is fs e = by v fs e (greatest_is v)
        where
          by : (u : Schedule) (fs : List lists'.Waiting) → length u ≡ length fs
              → rules.greatest u ≡ greatest (of_rank 0 u) (length u)
              → lists'.list_cost Makespan p u ≡ makespan_by fs p (greatest (of_rank 0 u) (length fs))
          by [] [] e g = refl
          by [] (f ∷ fs) e g = absurd (omega arith)
          by (x ∷ u) [] e g = absurd (omega arith)
          by (x ∷ u) (f ∷ fs) e g = cc

      go : (o : Objective) → p.objective ≡ o → lists'.list_objective p v ≡ value_of_map p (of_rank 0 v)
      go Makespan e = ap (λ o. lists'.list_cost o p v) e ∙ makespan_is _ long ∙ sym (cc)
      go Delay e = grind (arith, delay_is)

-- ---- lists that are nowhere later

pub zip_of : (xs ys : List ℕ) → length xs ≡ length ys → ((i : ℕ) → i < length xs → get_or xs i 0 ≤ get_or ys i 0)
    → AllZip (λ a b. a ≤ b) xs ys
zip_of (x ∷ xs) (y ∷ ys) e h = (h 0 (omega arith), zip_of xs ys (omega arith) (λ i lt. h (suc i) (omega arith)))
zip_of xs ys e h = grind arith

pub zip_same : (xs ys : List ℕ) → AllZip (λ a b. a ≤ b) xs ys → AllZip (λ a b. a ≤ b) ys xs → xs ≡ ys
zip_same [] ys a b = grind arith
zip_same (x ∷ xs) ys a b = grind (arith, zip_same xs)

pub zip_rank : (xs ys : Schedule) → AllZip (λ a b. a ≤ b) xs ys → (r : ℕ) → IsRank (length xs) r
    → of_rank 0 xs r ≤ of_rank 0 ys r
zip_rank xs ys a r q = grind (arith, AllZip-get_or)

-- ---- best and tight lists

module _ (p : lists'.Problem) (passed : (r : ℕ) → IsRank (length p.flights) r
    → (of_rank no_waiting p.flights r).passed ≤ p.k) where
  -- a list whose map is best is best
  pub best_list : (v : Schedule) → length v ≡ length p.flights → IsBest (ranked p) (value_of_map p) (of_rank 0 v)
      → lists'.IsBestList p v
  best_list v long b = grind (arith, feasible_list, list_feasible, list_value)

  same_order : (v u : Schedule) → length v ≡ length p.flights → rules.HaveSameOrder v u
      → SameOrder (length p.flights) (of_rank 0 v) (of_rank 0 u)
  same_order v u long o x g qf qg = grind arith

  -- a list whose map is tight is tight
  pub tight_list : (v : Schedule) → length v ≡ length p.flights → Tight (ranked p) (of_rank 0 v)
      → lists'.IsTightList p v
  tight_list v long t = record {
    feasible = feasible_list p passed v long t.feasible;
    earliest = λ u f o. zip_of v u (omega arith)
        (λ i lt. t.least (of_rank 0 u) (list_feasible p u f) (same_order v u long o) (suc i)
        (omega arith, omega arith));
  }
