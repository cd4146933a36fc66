-- The ranks up to a count: a fold that goes up through them, how many they are, and the greatest of their seconds.
use Rattle.std.proofs.Common.{◌≡◌, ℕ, zero, suc, ◌+◌, ◌≤◌, ◌∷◌, arith, ap, inl, inr, length, refl, ltb}
use Rattle.std.proofs.lemmas.Bool.{cases_eq, lt-ltb, le-ltb}
use Rattle.std.specs.List.{fold, range_with_len}
use Rattle.cps_theory.specs.RankLists.{In, IsRank, upto}
use Rattle.cps_theory.specs.Feasible.{greatest}
use Rattle.cps_theory.specs.laws.RankCounts.{count_length, count}

-- what each rank takes one step further is the fold of the steps
pub ranks_folded : {X : Type 0} (step : X → ℕ → X) (so_far : ℕ → X)
    → ((n : ℕ) → step (so_far n) (suc n) ≡ so_far (suc n)) → (n : ℕ)
    → fold step (so_far 0) (range_with_len 1 n) ≡ so_far n
ranks_folded step so_far more n = from n 0 1 n (omega arith) (omega arith)
  where
    from : (m a b c : ℕ) → b ≡ suc a → c ≡ m + a → fold step (so_far a) (range_with_len b m) ≡ so_far c
    from zero a b c e is = grind arith
    from (suc m) a b c e is = grind (arith, from m)

pub greatest_least : (t : ℕ → ℕ) (n m : ℕ) → ((r : ℕ) → IsRank n r → t r ≤ m) → greatest t n ≤ m
greatest_least t zero m h = omega arith
greatest_least t (suc n) m h = omega (arith, greatest_least t n m (λ r q. h r (q.0, omega arith)))

pub at_most_greatest : (t : ℕ → ℕ) (n r : ℕ) → IsRank n r → t r ≤ greatest t n
at_most_greatest t zero r q = absurd (omega arith)
at_most_greatest t (suc n) r q = grind (arith, cases_eq, at_most_greatest t n)

pub in_upto : (n x : ℕ) → In x (upto n) → IsRank n x
in_upto zero x i = absurd i
in_upto (suc n) x (inl e) = omega arith
in_upto (suc n) x (inr i) = let a = in_upto n x i in (a.0, omega arith)

pub length-upto : (n : ℕ) → length (upto n) ≡ n
length-upto zero = refl
length-upto (suc n) = ap suc (length-upto n)

pub count_below : (n r : ℕ) → 1 ≤ r → r ≤ suc n → suc (count (λ q. ltb q r) (upto n)) ≡ r
count_below zero r one le = omega arith
count_below (suc n) r one le =
    elim (cases_eq r (suc (suc n))) [
      | inl e ↦ let a = count_length (λ q. ltb q r) (suc n ∷ upto n) (λ x i. let b =
          in_upto (suc n) x i in lt-ltb x r (omega arith)) in let c = length-upto n in omega arith
      | inr ne ↦ grind (arith, le-ltb, count_below n, count_below n r one)
    ]
