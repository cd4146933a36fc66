-- Lists of ranks in landing order, and the windows at their ends.
use Rattle.std.specs.Prelude.{◌≡◌, ℕ, ℤ, pos, ◌+◌, ◌<◌, ◌≤◌, ◌⊎◌, ◌-ℤ◌, ◌≤ℤ◌, List, [], ◌∷◌, ◌++◌, length, drop}
use Rattle.std.specs.Prelude.{slice_index, replicate, Contains}

-- a list of ranks keeps the shift rule so far: the ranks are different, from 1 on, each at most k from its place, and
-- each rank that is k below the length, or further, is listed
pub record RanksKeepShift (k : ℕ) (ranks : List ℕ) : Type 0 where
  pub positive : (i : ℕ) → i < length ranks → 0 < slice_index ranks i
  pub differ : (i j : ℕ) → i < j → j < length ranks → slice_index ranks i ≡ slice_index ranks j → ⊥
  pub early : (i : ℕ) → i < length ranks → slice_index ranks i ≤ i + 1 + k
  pub late : (i : ℕ) → i < length ranks → i + 1 ≤ slice_index ranks i + k
  pub due : (rank : ℕ) → 0 < rank → rank + k ≤ length ranks → Contains ranks rank

-- rank minus place, from a place on
abbrev pub offsets_from : ℕ → List ℕ → List ℤ
offsets_from place [] = []
offsets_from place (rank ∷ ranks) = (pos rank -ℤ pos place) ∷ offsets_from (place + 1) ranks

-- the offsets at the last places of a list of ranks, with 0 at places below 1
abbrev pub window_of : ℕ → List ℕ → List ℤ
window_of width ranks = drop (length ranks) (replicate width (pos 0) ++ offsets_from 1 ranks)

-- a rank is one of the list, or below 1
abbrev pub HasLanded : List ℕ → ℤ → Type 0
HasLanded ranks rank = (rank ≤ℤ pos 0) ⊎ ((r : ℕ) × (rank ≡ pos r) × Contains ranks r)
