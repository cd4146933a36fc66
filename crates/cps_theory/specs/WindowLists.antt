-- Lists of different windows, each of n numbers below m, as offsets raised by k are.
use Rattle.std.specs.Prelude.{◌≡◌, ℕ, ◌<◌, ◌⊎◌, List, [], ◌∷◌, length, ℤ, pos, ◌+ℤ◌, nat_abs}
use Rattle.std.specs.List.{AllByRecursion}

-- the list of lists has x
abbrev pub InLists : List ℕ → List (List ℕ) → Type 0
InLists x [] = ⊥
InLists x (y ∷ ys) = (x ≡ y) ⊎ InLists x ys

-- no two are the same
abbrev pub DistinctLists : List (List ℕ) → Type 0
DistinctLists [] = Unit {0}
DistinctLists (x ∷ xs) = (InLists x xs → ⊥) × DistinctLists xs

-- n numbers below m
abbrev pub Sized : ℕ → ℕ → List ℕ → Type 0
Sized m n xs = (length xs ≡ n) × AllByRecursion (λ x. x < m) xs

-- an offset plus k, as a number
abbrev pub raised : ℕ → ℤ → ℕ
raised k o = nat_abs (o +ℤ pos k)
