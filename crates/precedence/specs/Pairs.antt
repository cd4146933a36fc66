-- Which ranks must land before which, as one set of bits for each rank.
use Rattle.std.specs.Prelude.{◌≡◌, ℕ, ◌+◌, ◌≤◌, ◌↔◌, Bool, IsTrue, List, length, slice_index, nat_eq}
use Rattle.std.specs.Int.{bit_at}
use Rattle.std.proofs.lemmas.Bool.Decides.{Decides-eqb}
use Rattle.cps_base.specs.Limits.{most_waiting}

-- a set of numbers, kept as the bits of one number, has this number
abbrev pub HasBit : ℕ → ℕ → Type 0
HasBit bits number = bit_at bits number ≡ 1

-- a rank must land before another. At the place of each rank stand its predecessors, as a set of bits
abbrev pub MustPrecede : List ℕ → ℕ → ℕ → Type 0
MustPrecede pairs first next = HasBit (slice_index pairs next) first

-- the same as a test that computes
abbrev pub must_precede : List ℕ → ℕ → ℕ → Bool
must_precede pairs first next = nat_eq (bit_at (slice_index pairs next) first) 1

pub must_precede_decides : (pairs : List ℕ) (first next : ℕ) → IsTrue (must_precede pairs first next)
    ↔ MustPrecede pairs first next
must_precede_decides pairs first next = Decides-eqb (bit_at (slice_index pairs next) first) 1

-- each pair is of ranks of flights that wait
abbrev pub AreInRange : List ℕ → Type 0
AreInRange pairs = (first next : ℕ) → MustPrecede pairs first next → (1 ≤ first) × (first ≤ most_waiting)
    × (1 ≤ next) × (next ≤ most_waiting)

-- a place for each rank, and one for 0 that stays empty
pub record ArePairs (pairs : List ℕ) : Type 0 where
  pub len : length pairs ≡ most_waiting + 1
  pub in_range : AreInRange pairs
