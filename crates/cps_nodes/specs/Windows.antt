-- Windows as lists of offsets: what a window is, which landings it accepts, and which ranks it places.
use Rattle.std.specs.Prelude.{◌≡◌, ℕ, ℤ, pos, ◌-◌, ◌/◌, ◌%◌, ◌<◌, ◌⊎◌, ◌+ℤ◌, ◌-ℤ◌, ◌≤ℤ◌, List, [], ◌∷◌, ◌++◌, length}
use Rattle.std.specs.Prelude.{drop, slice_index_or}

-- one of 1, 3, 5, 7
abbrev pub IsWidth : ℕ → Type 0
IsWidth width = (width % 2 ≡ 1) × (width < 8)

-- the offset at a place of a list, and 0 past its end
abbrev pub offset_at : List ℤ → ℕ → ℤ
offset_at xs i = slice_index_or xs i (pos 0)

-- some place of the list holds this rank. Ranks are counted from the place of the first offset
abbrev pub HoldsRank : List ℤ → ℤ → Type 0
HoldsRank xs rank = (i : ℕ) × (i < length xs) × (pos i +ℤ offset_at xs i ≡ rank)

-- the offsets of a window: each is -k to k, their ranks differ, and the rank that is due by the last place is among
-- them
pub record IsWindow (width : ℕ) (xs : List ℤ) : Type 0 where
  pub is_width : IsWidth width
  pub len : length xs ≡ width
  pub low : (i : ℕ) → i < width → pos 0 ≤ℤ (offset_at xs i +ℤ pos (width / 2))
  pub high : (i : ℕ) → i < width → offset_at xs i ≤ℤ pos (width / 2)
  pub differ : (i j : ℕ) → i < j → j < width → pos i +ℤ offset_at xs i ≡ pos j +ℤ offset_at xs j → ⊥
  pub due : HoldsRank xs (pos (width / 2))

-- the offsets after one more landing
abbrev pub shifted : List ℤ → ℤ → List ℤ
shifted xs offset = drop 1 xs ++ offset ∷ []

-- a landing at this offset repeats no flight of the window, and the flight that is then due is in the new window
pub record Accepts (xs : List ℤ) (offset : ℤ) : Type 0 where
  pub fresh : HoldsRank xs (pos (length xs) +ℤ offset) → ⊥
  pub due : HoldsRank (shifted xs offset) (pos (length xs / 2))

-- a rank has landed by this stage: it was due, or the window holds it
abbrev pub IsPlaced : List ℤ → ℤ → ℤ → Type 0
IsPlaced xs stage rank = ((rank +ℤ pos (length xs / 2)) ≤ℤ stage) ⊎ HoldsRank xs (rank -ℤ stage +ℤ pos (length xs - 1))
