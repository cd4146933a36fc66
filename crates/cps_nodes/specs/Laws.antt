-- What windows say of every list of ranks that keeps the shift rule, and of one another.
use Rattle.std.specs.Prelude.{◌≡◌, ℕ, ℤ, pos, ◌+◌, ◌-◌, ◌/◌, ◌≤◌, ◌+ℤ◌, ◌-ℤ◌, ◌↔◌, List, [], ◌∷◌, ◌++◌, length, drop}
use Rattle.std.specs.Prelude.{replicate}
use Rattle.cps_nodes.specs.Leads.{IsWithin, Extends, GoOnAlike, TailMeetsHead}
use Rattle.cps_nodes.specs.Windows.{IsWindow, Accepts, IsPlaced, offset_at, shifted}
use Rattle.cps_nodes.specs.Ranks.{RanksKeepShift, HasLanded, window_of}

-- the offset of a rank that lands after so many
abbrev pub offset_after : ℕ → ℕ → ℤ
offset_after landed rank = pos rank -ℤ pos (landed + 1)

-- a rank lands after so many at most k from its place, and the window accepts it
pub record MayFollow (k : ℕ) (xs : List ℤ) (landed rank : ℕ) : Type 0 where
  pub early : rank ≤ landed + 1 + k
  pub late : landed + 1 ≤ rank + k
  pub accepted : Accepts xs (offset_after landed rank)

-- windows of a width follow the lists of ranks: a list goes on by a rank exactly where its window accepts the rank, the
-- window is then shifted by it, and the window tells the ranks of the list and the last of them
pub record FollowRanks (width : ℕ) : Type 0 where
  pub none : RanksKeepShift (width / 2) []
  pub goes_on : (ranks : List ℕ) (rank : ℕ)
      → RanksKeepShift (width / 2) (ranks ++ rank ∷ [])
      ↔ (RanksKeepShift (width / 2) ranks × MayFollow (width / 2) (window_of width ranks) (length ranks) rank)
  pub shifts : (ranks : List ℕ) (rank : ℕ) → window_of width (ranks ++ rank ∷ []) ≡ shifted
      (window_of width ranks) (offset_after (length ranks) rank)
  pub wide : (ranks : List ℕ) → length (window_of width ranks) ≡ width
  pub last : (ranks : List ℕ) (rank : ℕ) → pos (length ranks + 1) +ℤ offset_at (window_of width (ranks ++ rank ∷ []))
      (width - 1) ≡ pos rank
  pub places : (ranks : List ℕ) (rank : ℤ) → RanksKeepShift (width / 2) ranks
      → IsPlaced (window_of width ranks) (pos (length ranks)) rank ↔ HasLanded ranks rank

-- windows of a width lead on: zeros are a window, an accepted landing gives a window, one window extends to another
-- exactly where its tail is the other's head, and windows with the same offsets from the second on go on alike
pub record LeadOn (width : ℕ) : Type 0 where
  pub source : IsWindow width (replicate width (pos 0))
  pub stays : (xs : List ℤ) (offset : ℤ) → IsWindow width xs → IsWithin (pos (width / 2)) offset
      → Accepts xs offset → IsWindow width (shifted xs offset)
  pub meets : (xs ys : List ℤ) → IsWindow width xs → IsWindow width ys → Extends xs ys ↔ TailMeetsHead xs ys
  pub alike : (xs ys : List ℤ) → IsWindow width xs → IsWindow width ys → drop 1 xs ≡ drop 1 ys → GoOnAlike xs ys
