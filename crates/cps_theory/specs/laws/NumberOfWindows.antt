-- There are at most m ^ n different lists of n numbers below m, so a stage has at most (2k + 1) ^ (2k + 1) windows.
use Rattle.std.proofs.lemmas.Grind.{common_steps}
use Rattle.std.proofs.Common.{◌≡◌, ℕ, suc, ◌+◌, ◌*◌, ◌^◌, ◌<◌, ◌≤◌, inl, inr, List, [], ◌∷◌, length, map, arith, refl}
use Rattle.std.proofs.Math.Nat.{pow-succ', pow-zero}
use Rattle.std.proofs.lemmas.Nat.{mul-add-lt}
use Rattle.std.proofs.lemmas.Bool.{cases_order}
use Rattle.std.specs.List.{AllByRecursion}
use Rattle.cps_theory.specs.RankLists.{Distinct, In, IsRank}
use Rattle.cps_theory.specs.WindowLists.{DistinctLists, InLists, Sized}
use Rattle.cps_theory.specs.laws.RanksOfList.{few_ranks}

-- a list as a number in base m
abbrev pub as_number : ℕ → List ℕ → ℕ
as_number m [] = 0
as_number m (x ∷ xs) = as_number m xs * m + x

as_number_below : (m : ℕ) (xs : List ℕ) → AllByRecursion (λ x. x < m) xs → as_number m xs < m ^ length xs
as_number_below m [] a = omega (arith, pow-zero m)
as_number_below m (x ∷ xs) a = omega (arith, mul-add-lt _ m x _ (as_number_below m xs a.1) a.0, pow-succ' m (length xs))

same_parts : (m a b x y : ℕ) → x < m → y < m → a * m + x ≡ b * m + y → (a ≡ b) × (x ≡ y)
same_parts m a b x y lx ly e = elim (cases_order a b) [
  | inl s ↦ grind arith
  | inr (inl lt) ↦ absurd (omega (arith, mul-add-lt a m x b lt lx))
  | inr (inr lt) ↦ absurd (omega (arith, mul-add-lt b m y a lt ly))
]

as_number_same : (m : ℕ) (xs ys : List ℕ) → length xs ≡ length ys → AllByRecursion (λ x. x < m) xs
    → AllByRecursion (λ x. x < m) ys → as_number m xs ≡ as_number m ys → xs ≡ ys
as_number_same m [] [] l a b e = refl
as_number_same m (x ∷ xs) (y ∷ ys) l a b e =
    let s = same_parts m _ _ x y a.0 b.0 e in grind (arith, as_number_same m xs, as_number_same m xs ys)
as_number_same m xs ys l a b e = cc

numbers_differ : (m n : ℕ) (w : List ℕ) (ws : List (List ℕ)) → Sized m n w → AllByRecursion (Sized m n) ws
    → In (suc (as_number m w)) (map (λ x. suc (as_number m x)) ws) → InLists w ws
numbers_differ m n w [] s a i = i
numbers_differ m n w (x ∷ ws) s a i = grind (arith, as_number_same, numbers_differ m n w ws)

distinct_numbers : (m n : ℕ) (ws : List (List ℕ)) → AllByRecursion (Sized m n) ws → DistinctLists ws
    → Distinct (map (λ x. suc (as_number m x)) ws)
distinct_numbers m n [] a d = tt
distinct_numbers m n (w ∷ ws) a d = (λ i. d.0 (numbers_differ m n w ws a.0 a.1 i), distinct_numbers m n ws a.1 d.1)

in_range : (m n x : ℕ) (ws : List (List ℕ)) → AllByRecursion (Sized m n) ws → In x (map (λ y. suc (as_number m y)) ws)
    → IsRank (m ^ n) x
in_range m n x [] a i = absurd i
in_range m n x (w ∷ ws) a i = grind (arith, as_number_below, in_range m n x ws)

length-numbers : (m : ℕ) (ws : List (List ℕ)) → length (map (λ x. suc (as_number m x)) ws) ≡ length ws
length-numbers m ws = grind (arith, common_steps)

pub few_lists : (m n : ℕ) (ws : List (List ℕ)) → AllByRecursion (Sized m n) ws → DistinctLists ws → length ws ≤ m ^ n
few_lists m n ws a d =
    let f = few_ranks _ _ (distinct_numbers m n ws a d) (λ x i. in_range m n x ws a i) in grind (arith, length-numbers)
