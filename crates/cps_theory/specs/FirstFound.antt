-- What a search from the front finds first: a number, a pair of numbers, an element by its number.
use Rattle.std.specs.Prelude.{ℕ, zero, suc, ◌+◌, List, [], ◌∷◌, Bool, Option, Some, None, if◌then◌else◌}
use Rattle.std.specs.Option.{option_or}

-- the first of m numbers from x on that passes
abbrev pub first_from : (ℕ → Bool) → ℕ → ℕ → Option ℕ
first_from test x zero = None
first_from test x (suc m) = if test x then Some x else first_from test (suc x) m

-- what is found, behind a number
abbrev pub with_number : ℕ → Option ℕ → Option (ℕ × ℕ)
with_number i None = None
with_number i (Some r) = Some (i, r)

-- the first of m numbers from x on for which another is found, with that other
abbrev pub first_pair_from : (ℕ → Option ℕ) → ℕ → ℕ → Option (ℕ × ℕ)
first_pair_from find x zero = None
first_pair_from find x (suc m) = option_or (with_number x (find x)) (first_pair_from find (suc x) m)

-- the number of the first element that passes, where the front has number i
unfoldable pub element_from : {S : Type 0} → (S → Bool) → ℕ → List S → Option ℕ
element_from test i [] = None
element_from test i (s ∷ ss) = if test s then Some i else element_from test (i + 1) ss
