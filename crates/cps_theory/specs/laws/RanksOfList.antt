-- A list of different ranks from 1 to n has no more than n, all of them where it has n, and then the sums of the ranks
-- up to n.
use Rattle.std.proofs.lemmas.Grind.{common_steps}
use Rattle.std.proofs.Common.{◌≡◌, ℕ, zero, suc, ◌+◌, ◌≤◌, inl, inr, List, [], ◌∷◌, length, cond, Bool}
use Rattle.std.proofs.Common.{eqb, arith, sym, ap, ◌∙◌}
use Rattle.std.proofs.lemmas.Bool.{cases_eq, eqb-true, eqb-false, lt-ltb, le-leb, and_from}
use Rattle.cps_theory.specs.RankLists.{Distinct, In, IsRank, upto}
use Rattle.cps_theory.specs.Feasible.{total}
use Rattle.cps_theory.specs.laws.Members.{cases_in}
use Rattle.cps_theory.specs.laws.RankCounts.{count_length, count, count_between}

-- the list without the first x
abbrev pub drop_one : ℕ → List ℕ → List ℕ
drop_one x [] = []
drop_one x (r ∷ rs) = cond (eqb x r) rs (r ∷ drop_one x rs)

-- no more different ranks than n
pub few_ranks : (n : ℕ) (rs : List ℕ) → Distinct rs → ((x : ℕ) → In x rs → IsRank n x) → length rs ≤ n
few_ranks n rs d in' =
    let a = count_between 0 n rs d in grind (arith, count_length, and_from, lt-ltb, le-leb)

-- so n of them are all of them
pub all_ranks : (n : ℕ) (rs : List ℕ) → Distinct rs → ((x : ℕ) → In x rs → IsRank n x) → length rs ≡ n
    → (x : ℕ) → IsRank n x → In x rs
all_ranks n rs d in' whole x r = elim (cases_in x rs) [
  | inl i ↦ i
  | inr out ↦ absurd (omega (arith, few_ranks n (x ∷ rs) (out, d) (λ y i. elim i [ inl e ↦ rw e r | inr j ↦ in' y j ])))
]

pub in_drop : (x y : ℕ) (rs : List ℕ) → In y (drop_one x rs) → In y rs
in_drop x y [] i = i
in_drop x y (r ∷ rs) i = grind (arith, in_drop x y rs)

pub distinct_drop : (x : ℕ) (rs : List ℕ) → Distinct rs → Distinct (drop_one x rs) × (In x (drop_one x rs) → ⊥)
distinct_drop x [] d = (tt, λ i. i)
distinct_drop x (r ∷ rs) d = grind (arith, eqb-true, in_drop, eqb-false, distinct_drop x rs)

pub total_drop : (f : ℕ → ℕ) (x : ℕ) (rs : List ℕ) → In x rs → (total f rs ≡ f x + total f (drop_one x rs))
    × (length rs ≡ suc (length (drop_one x rs)))
total_drop f x [] i = absurd i
total_drop f x (r ∷ rs) i = grind (arith, eqb-true, eqb-false, total_drop f x rs)

pub total_ranks : (f : ℕ → ℕ) (n : ℕ) (rs : List ℕ) → Distinct rs → ((x : ℕ) → In x rs → IsRank n x)
    → length rs ≡ n → total f rs ≡ total f (upto n)
total_ranks f zero rs d in' e = grind (arith, common_steps)
total_ranks f (suc n) rs d in' e =
    let t = total_drop f _ rs (all_ranks _ rs d in' e _ (omega arith, omega arith)) in
    let dd = distinct_drop _ rs d in
    let rest = total_ranks f n _ dd.0 (λ x i. let r = in' x (in_drop _ x rs i) in (
      r.0,
      elim (cases_eq x _) [
        | inl q ↦ absurd (dd.1 (rw q at i))
        | inr ne ↦ omega arith
      ],
    )) (omega arith) in
    t.0 ∙ ap (λ m. f (suc n) + m) rest

pub count_total : (p : ℕ → Bool) (rs : List ℕ) → count p rs ≡ total (λ r. cond (p r) 1 0) rs
count_total p rs = cc

pub count_ranks : (p : ℕ → Bool) (n : ℕ) (rs : List ℕ) → Distinct rs → ((x : ℕ) → In x rs → IsRank n x)
    → length rs ≡ n → count p rs ≡ count p (upto n)
count_ranks p n rs d in' e = count_total p rs ∙ total_ranks _ n rs d in' e ∙ sym (count_total p _)
