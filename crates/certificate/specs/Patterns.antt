-- The digits of a pattern: how many there may be, and how they stand in a number.
use Rattle.std.specs.Prelude.{ℕ, zero, suc, List, [], ◌∷◌, ◌+◌, ◌/◌, ◌%◌, ◌^◌, ◌==◌, ◌||◌, Bool, length, if◌then◌else◌}

-- a pattern has 0, 2, 4 or 6 digits
abbrev pub is_pattern_length : ℕ → Bool
is_pattern_length n = ((n == 0 || n == 2) || n == 4) || n == 6

-- the n lowest bits of a number, the lowest first
abbrev pub bits : ℕ → ℕ → List Bool
bits zero ones = []
bits (suc n) ones = (ones % 2 == 1) ∷ bits n (ones / 2)

-- digits as a number, digit 1 the highest
abbrev pub number_of : List Bool → ℕ
number_of [] = 0
number_of (d ∷ ds) = (if d then 2 ^ length ds else 0) + number_of ds
