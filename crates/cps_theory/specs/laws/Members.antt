-- What is in a list: behind an append, after a filter, in the middle.
use Rattle.std.proofs.Common.{arith}
use Rattle.std.proofs.Common.{ℕ, ◌⊎◌, inl, inr, List, [], ◌∷◌, ◌++◌, ◌≡◌, filter, Bool, true, refl}
use Rattle.std.proofs.lemmas.Bool.{cases_eq}
use Rattle.cps_theory.specs.RankLists.{Distinct, In}

pub in_append : (x : ℕ) (xs ys : List ℕ) → In x (xs ++ ys) → In x xs ⊎ In x ys
in_append x [] ys i = inr i
in_append x (y ∷ xs) ys i = grind (arith, in_append x xs)

pub append_in : (x : ℕ) (xs ys : List ℕ) → In x xs ⊎ In x ys → In x (xs ++ ys)
append_in x [] ys k = grind arith
append_in x (y ∷ xs) ys k = grind (arith, append_in x xs)

pub in_filter : (q : ℕ → Bool) (y : ℕ) (xs : List ℕ) → In y (filter q xs) → In y xs × (q y ≡ true)
in_filter q y [] i = absurd i
in_filter q y (x ∷ xs) i = grind (arith, in_filter q y xs)

pub distinct_filter : (q : ℕ → Bool) (xs : List ℕ) → Distinct xs → Distinct (filter q xs)
distinct_filter q [] d = tt
distinct_filter q (x ∷ xs) d = grind (arith, in_filter, distinct_filter q xs)

pub filter_in : (q : ℕ → Bool) (y : ℕ) (xs : List ℕ) → In y xs → q y ≡ true → In y (filter q xs)
filter_in q y [] i e = absurd i
filter_in q y (x ∷ xs) i e = grind (arith, filter_in q y xs)

pub in_middle : (r : ℕ) (front rs : List ℕ) → In r (front ++ r ∷ rs)
in_middle r [] rs = inl refl
in_middle r (x ∷ front) rs = inr (in_middle r front rs)

pub cases_in : (x : ℕ) (rs : List ℕ) → In x rs ⊎ (In x rs → ⊥)
cases_in x [] = inr (λ i. i)
cases_in x (r ∷ rs) = grind (arith, cases_eq, cases_in x rs)
