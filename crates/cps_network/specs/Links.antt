-- Links: which windows of a list lead to each window of another.
use Rattle.std.specs.Prelude.{◌≡◌, ℕ, ℤ, ◌<◌, List, length, slice_index, slice_index_or}
use Rattle.cps_nodes.specs.Leads.{Extends}
use Rattle.cps_network.specs.Groups.{IsGroup}
use Rattle.cps_network.specs.Lists.{node_at}

-- two lists of windows, ranges of the first, each half-open, and for each window of the second the place of a range
pub record Links : Type 0 where
  pub origin : List (List ℤ)
  pub target : List (List ℤ)
  pub ranges : List (ℕ × ℕ)
  pub places : List ℕ

-- the range at a place
abbrev pub range_at : List (ℕ × ℕ) → ℕ → ℕ × ℕ
range_at ranges place = slice_index_or ranges place (0, 0)

-- each range is that of all windows that share one tail
abbrev pub AreGroups : List (List ℤ) → List (ℕ × ℕ) → Type 0
AreGroups windows ranges = (g : ℕ) → g < length ranges → IsGroup windows (range_at ranges g).0 (range_at ranges g).1

-- the window at the front of a range
abbrev pub front_of : List (List ℤ) → ℕ × ℕ → List ℤ
front_of windows range = node_at windows range.0

-- each range is that of all windows that share one tail, and each window of the second list has the place of a range
-- whose windows lead to it
pub record AreLinks (l : Links) : Type 0 where
  pub one_each : length l.places ≡ length l.target
  pub groups : AreGroups l.origin l.ranges
  pub within : (i : ℕ) → i < length l.target → slice_index l.places i < length l.ranges
  pub leads : (i : ℕ) → i < length l.target → Extends (front_of l.origin (range_at l.ranges (slice_index l.places i)))
      (node_at l.target i)
