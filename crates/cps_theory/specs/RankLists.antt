-- Lists of ranks and of numbers of flights: what is in them, whether they differ, and reading them by rank.
use Rattle.std.specs.Prelude.{Bool, true, get_or, ℕ, suc, ◌≤◌, List, [], ◌∷◌, count_by, nat_lt, ◌≡◌, zero, ◌⊎◌}

-- the list has x
abbrev pub In : ℕ → List ℕ → Type 0
In x [] = ⊥
In x (r ∷ rs) = (x ≡ r) ⊎ In x rs

-- the ranks from n down to 1
abbrev pub upto : ℕ → List ℕ
upto zero = []
upto (suc n) = suc n ∷ upto n

-- a rank of n flights
abbrev pub IsRank : ℕ → ℕ → Type 0
IsRank n r = (1 ≤ r) × (r ≤ n)

-- how many of these ranks are greater, and how many smaller
abbrev pub above : ℕ → List ℕ → ℕ
above x rs = count_by (λ r. nat_lt x r) rs

abbrev pub below : ℕ → List ℕ → ℕ
below x rs = count_by (λ r. nat_lt r x) rs

-- no two are the same
abbrev pub Distinct : List ℕ → Type 0
Distinct [] = Unit {0}
Distinct (r ∷ rs) = (In r rs → ⊥) × Distinct rs

-- n numbers from i on
abbrev pub numbers_from : ℕ → ℕ → List ℕ
numbers_from i zero = []
numbers_from i (suc n) = i ∷ numbers_from (suc i) n

-- what a list has at a rank, the first at rank 1; rank 0 has the default
abbrev pub of_rank : {X : Type 0} → X → List X → ℕ → X
of_rank d xs zero = d
of_rank d xs (suc i) = get_or xs i d

-- each comes before all that stand behind it
abbrev pub Ordered : (ℕ → ℕ → Bool) → List ℕ → Type 0
Ordered before [] = Unit {0}
Ordered before (x ∷ xs) = ((y : ℕ) → In y xs → before x y ≡ true) × Ordered before xs
