-- Which windows lead to a window, where they stand in the order, and which windows go on alike.
use Rattle.std.specs.Prelude.{◌≡◌, ℤ, pos, ◌-◌, ◌/◌, ◌+ℤ◌, ◌≤ℤ◌, ◌↔◌, List, length, drop, take}
use Rattle.std.specs.declared.cmp.Ordering.TheVariants.{Less}
use Rattle.std.specs.Ordering.{int_cmp}
use Rattle.std.specs.Cmp.Lexicographic.{slice_cmp}
use Rattle.cps_nodes.specs.Windows.{Accepts, IsPlaced, shifted}

-- an offset is -k to k
pub record IsWithin (k : ℤ) (offset : ℤ) : Type 0 where
  pub low : pos 0 ≤ℤ (offset +ℤ k)
  pub high : offset ≤ℤ k

-- some offset extends a window to another
abbrev pub Extends : List ℤ → List ℤ → Type 0
Extends xs ys = (offset : ℤ) × IsWithin (pos (length xs / 2)) offset × Accepts xs offset × (ys ≡ shifted xs offset)

-- the offsets of a window from the second on are those of another up to its last but one
abbrev pub TailMeetsHead : List ℤ → List ℤ → Type 0
TailMeetsHead xs ys = drop 1 xs ≡ take (length ys - 1) ys

-- a window stands, in the order, before those that lead to another
abbrev pub IsBelow : List ℤ → List ℤ → Type 0
IsBelow xs ys = slice_cmp int_cmp (drop 1 xs) (take (length ys - 1) ys) ≡ Less

-- two windows accept the same landings, become the same by each, and place the same ranks
pub record GoOnAlike (xs ys : List ℤ) : Type 0 where
  pub accepts : (offset : ℤ) → pos 0 ≤ℤ (offset +ℤ pos (length xs / 2)) → Accepts xs offset ↔ Accepts ys offset
  pub next : (offset : ℤ) → shifted xs offset ≡ shifted ys offset
  pub placed : (stage rank : ℤ) → IsPlaced xs stage rank ↔ IsPlaced ys stage rank
