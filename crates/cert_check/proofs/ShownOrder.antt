-- The landings of a best list in an order of all ranks are shown optimal.
use Rattle.std.proofs.Common.{rules, ◌≡◌, ◌≢◌, ℕ, suc, ◌<◌, inl, inr, Bool, cond, eqb, List, [], ◌∷◌, length}
use Rattle.std.proofs.Common.{reverse, refl, sym, ap, subst, ◌∙◌, arith}
use Rattle.std.proofs.lemmas.Grind.{common_steps, same_number_lists}
use Rattle.std.specs.Prelude.{All, bytes_eq, count_by}
use Rattle.std.proofs.lemmas.Bool.{cases_eq, eq-eqb, ne_eqb}
use Rattle.std.proofs.lemmas.List.{length-map, length-reverse, reverse-reverse, get_or-map}
use Rattle.std.proofs.lemmas.List.Sorted.{IsPermutation-reverse, sum_by-IsPermutation}
use Rattle.std.proofs.lemmas.List.Sums.{sum_by-cons}
use Rattle.landing_rules.specs.Flights.{Schedule}
use Rattle.landing_rules.specs.Problem.{Problem, IsBestList, list_objective}
use Rattle.cps_theory.specs.RankLists.{Distinct, In, IsRank, of_rank}
use Rattle.cps_theory.specs.laws.NumberedLists.{count_by_map, count_by_agree}
use Rattle.cps_theory.specs.laws.RanksOfList.{all_ranks}
use Rattle.landing_joint.specs.RankedProblem.{no_waiting}
use Rattle.cps_problem.specs.WellFormed.{IsWellFormed}
use Rattle.cert_check.specs.Landings.{Landings, count, flight, second_of, seconds}
use Rattle.cert_check.specs.Meaning.{IsShownOptimal}
use Rattle.cert_check.specs.WholeLaws.{landings_in}
use Rattle.landing_rules.specs.shared.Members.{all_at, member_permutation}

in_reverse : (xs : List ℕ) (x : ℕ) → In x xs → In x (reverse xs)
in_reverse xs x i = member_permutation xs (reverse xs) x (IsPermutation-reverse xs) i

-- a rank that does not stand in a list stands there no times, and one of different ranks once
none_of : (r : ℕ) (rs : List ℕ) → (In r rs → ⊥) → count_by (λ q. eqb q r) rs ≡ 0
none_of r [] out = refl
none_of r (q ∷ rs) out =
    let a = sum_by-cons (λ (x : ℕ). cond (eqb x r) 1 0) q rs in
    let b = ap (λ (t : Bool). cond {A = ℕ} t 1 0) (ne_eqb q r (λ e. out (inl (sym e)))) in
    let c = none_of r rs (λ i. out (inr i)) in
    omega arith

once_of : (r : ℕ) (rs : List ℕ) → Distinct rs → In r rs → count_by (λ q. eqb q r) rs ≡ 1
once_of r [] d i = absurd i
once_of r (q ∷ rs) d (inl e) = grind (arith, common_steps, none_of)
once_of r (q ∷ rs) d (inr i) = grind (arith, once_of r rs d.1 i)

module _ (p : Problem) (well : IsWellFormed p) where
  name : ℕ → List ℕ
  name r = (flight p r).callsign

  -- callsigns tell the ranks apart
  lower_differs : (q r : ℕ) → IsRank (count p) q → IsRank (count p) r → q < r → name q ≢ name r
  unfolding name
  lower_differs q r a b lt = grind (arith, common_steps)

  differ : (q r : ℕ) → IsRank (count p) q → IsRank (count p) r → (q ≡ r → ⊥) → name q ≡ name r → ⊥
  differ q r a b ne e = search (rules, lower_differs)

  same_name : (q r : ℕ) → IsRank (count p) q → IsRank (count p) r → bytes_eq (name q) (name r) ≡ eqb q r
  same_name q r a b = search (rules, differ)

  module _ (t : Schedule) (order : List ℕ) (as_many : length order ≡ count p) (ranks : All (IsRank (count p)) order)
      (distinct : Distinct (reverse order)) where
    ls : Landings
    ls = landings_in p t order

    is_rank : (r : ℕ) → In r order → IsRank (count p) r
    is_rank r i = all_at (IsRank (count p)) order ranks r i

    back : (r : ℕ) → In r (reverse order) → In r order
    back r i = search (rules, reverse-reverse, in_reverse)

    has_rank : (r : ℕ) → IsRank (count p) r → In r (reverse order)
    has_rank r q = search (rules, all_ranks, is_rank, back, length-reverse)

    once : (r : ℕ) → IsRank (count p) r → count_by (λ l. bytes_eq l.0 (flight p r).callsign) ls ≡ 1
    unfolding ls name
    once r q = count_by_map (λ l. bytes_eq l.0 (name r)) (λ x. (name x, of_rank 0 t x)) order
        ∙ count_by_agree (λ x. bytes_eq (name x) (name r)) (λ x. eqb x r) order (λ x i. same_name x r (is_rank x i) q)
        ∙ sym (sum_by-IsPermutation (λ x. cond (eqb x r) 1 0) order (reverse order) (IsPermutation-reverse order))
        ∙ once_of r (reverse order) distinct (has_rank r q)

    second_from : (rs : List ℕ) → ((x : ℕ) → In x rs → IsRank (count p) x) → (r : ℕ) → IsRank (count p) r
        → In r rs → second_of (landings_in p t rs) (flight p r).callsign ≡ of_rank 0 t r
    unfolding name
    second_from [] h r q i = absurd i
    second_from (x ∷ rs) h r q i = elim (cases_eq x r) [
      | inl e ↦ ap (λ (b : Bool). cond b (of_rank 0 t x) (second_of (landings_in p t rs) (name r)))
          (same_name x r (h x (inl refl)) q ∙ eq-eqb x r e) ∙ ap (of_rank 0 t) e
      | inr ne ↦ ap (λ (b : Bool). cond b (of_rank 0 t x) (second_of (landings_in p t rs) (name r))) (same_name x r
          (h x (inl refl)) q ∙ ne_eqb x r ne) ∙ second_from rs (λ y j. h y (inr j)) r q (later x r rs i ne)
    ]
      where
        later : (x r : ℕ) (rs : List ℕ) → In r (x ∷ rs) → (x ≡ r → ⊥) → In r rs
        later x r rs (inl e) ne = absurd (ne (sym e))
        later x r rs (inr j) ne = j

    seconds_are : length t ≡ count p → seconds p ls ≡ t
    unfolding ls
    seconds_are long =
        let all : length (seconds p ls) ≡ count p = length-map p.flights (λ f. second_of ls f.callsign) in
        same_number_lists (seconds p ls) t (omega arith)
        (λ i lt. get_or-map (λ f. second_of ls f.callsign) p.flights i no_waiting 0 (omega arith) ∙ second_from
        order is_rank (suc i) (omega arith, omega arith) (back (suc i) (has_rank (suc i) (omega arith, omega arith))))

    pub best_order_shown : IsBestList p t → IsShownOptimal p (landings_in p t order) (list_objective p t)
    unfolding ls
    best_order_shown best =
        let same = seconds_are best.feasible.one_each in
        record {
          landings = record {
            as_many = length-map order (λ r. ((flight p r).callsign, of_rank 0 t r)) ∙ as_many;
            each_once = λ r one most. once r (one, most);
          };
          best = subst (IsBestList p) (sym same) best;
          value = ap (list_objective p) same;
        }
