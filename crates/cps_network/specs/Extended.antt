-- Groups of the windows of a stage with the offsets that extend them, and the windows that so follow.
use Rattle.std.specs.Prelude.{◌≡◌, ℕ, ℤ, pos, ◌+◌, ◌-◌, ◌/◌, ◌-ℤ◌, ◌<◌, ◌≤◌, ◌⊎◌, drop}
use Rattle.std.specs.Prelude.{◌↔◌, List, length, slice_index, slice_index_or, All, Contains}
use Rattle.std.specs.declared.cmp.Ordering.TheVariants.{Less}
use Rattle.std.specs.Ordering.{int_cmp}
use Rattle.std.specs.Cmp.Lexicographic.{slice_cmp}
use Rattle.precedence.specs.Pairs.{HasBit}
use Rattle.cps_nodes.specs.Digits.{number_of}
use Rattle.cps_nodes.specs.Leads.{Extends}
use Rattle.cps_nodes.specs.WindowOrder.{window_cmp}
use Rattle.cps_nodes.specs.Windows.{Accepts, shifted}
use Rattle.landing_rules.specs.Problem.{Problem}
use Rattle.cps_network.specs.declared.groups.Group.{Group}
use Rattle.cps_problem.specs.Seen.{passed_at}
use Rattle.cps_network.specs.Again.{IsReady}
use Rattle.cps_network.specs.Groups.{IsGroup}
use Rattle.cps_network.specs.Lists.{node_at}
use Rattle.cps_network.specs.Permits.{IsPermitted}

-- a set has bit k + offset exactly where the rank that lands at this offset is permitted
abbrev pub HasPermitted : Problem → ℕ → List ℤ → ℕ → Type 0
HasPermitted p stage xs offsets = (j : ℕ) → HasBit offsets j ↔ IsPermitted p stage xs (stage + 1 + j - p.k)

-- a rank may land next after a stage by its number alone: it is 1 to n, at most k places from its own, and in time
pub record IsOpen (p : Problem) (stage rank : ℕ) : Type 0 where
  pub from_one : 1 ≤ rank
  pub to_count : rank ≤ length p.flights
  pub early : rank ≤ stage + 1 + p.k
  pub late : stage + 1 + passed_at p rank ≤ rank + p.k

-- a set has bit k + offset exactly where the rank that lands at this offset is open
abbrev pub HasOpen : Problem → ℕ → ℕ → Type 0
HasOpen p stage offsets = (j : ℕ) → HasBit offsets j ↔ IsOpen p stage (stage + 1 + j - p.k)

-- or is open and follows none but ranks that are due
abbrev pub HasFree : Problem → ℕ → ℕ → Type 0
HasFree p stage offsets = (j : ℕ) → HasBit offsets j
    ↔ (IsOpen p stage (stage + 1 + j - p.k) × IsReady p stage (stage + 1 + j - p.k))

-- a range of windows of a stage that share a tail, with the number of their offsets from the third on and the offsets
-- of the ranks that are permitted after them
pub record IsGroupOf (p : Problem) (stage : ℕ) (before : List (List ℤ)) (group : Group) : Type 0 where
  pub range : IsGroup before group.from group.to
  pub order : group.order ≡ number_of (drop 2 (node_at before group.from))
  pub permitted : HasPermitted p stage (node_at before group.from) group.offsets

-- the groups of a stage: each window is of one
pub record AreGroupsOf (p : Problem) (stage : ℕ) (before : List (List ℤ)) (groups : List Group) : Type 0 where
  pub each : All (IsGroupOf p stage before) groups
  pub whole : (i : ℕ) → i < length before → (group : Group) × Contains groups group × (group.from ≤ i) × (i < group.to)

-- the range of each group is that of all windows that share one tail
abbrev pub AreRanges : List (List ℤ) → List Group → Type 0
AreRanges before groups = All (λ group. IsGroup before group.from group.to) groups

-- the offset that a bit of a set stands for
abbrev pub offset_of : ℕ → ℕ → ℤ
offset_of width j = pos j -ℤ pos (width / 2)

-- the front window of a group accepts each offset of the group
pub record IsExtendable (width : ℕ) (before : List (List ℤ)) (group : Group) : Type 0 where
  pub within : group.from < length before
  pub accepted : (j : ℕ) → HasBit group.offsets j → Accepts (node_at before group.from) (offset_of width j)

-- a window extends the front window of a group by one of the group's offsets
pub record FollowsBy (width : ℕ) (before : List (List ℤ)) (group : Group) (j : ℕ) (next : List ℤ) : Type 0 where
  pub offset : HasBit group.offsets j
  pub is : next ≡ shifted (node_at before group.from) (offset_of width j)

-- the group at a place of a list
abbrev pub group_at : List Group → ℕ → Group
group_at groups i = slice_index_or groups i (record { from = 0; to = 0; order = 0; offsets = 0 })

-- a window does so for the group at a place, by one of the offsets from -k to k
abbrev pub Follows : ℕ → List (List ℤ) → List Group → ℕ → List ℤ → Type 0
Follows width before groups i next = (j : ℕ) × (j < width) × FollowsBy width before (group_at groups i) j next

-- a list has grown by what the places of a range add
abbrev pub HasGrownBy : (ℕ → List ℤ → Type 0) → ℕ → ℕ → List (List ℤ) → List (List ℤ) → Type 0
HasGrownBy Adds from to start now = (x : List ℤ) → Contains now x
    ↔ (Contains start x ⊎ ((i : ℕ) × (from ≤ i) × (i < to) × Adds i x))

-- ---- in the order of the windows that follow

abbrev pub front : List (List ℤ) → List Group → ℕ → List ℤ
front before groups i = node_at before (group_at groups i).from

-- groups stand by their offsets from the third on, and where these are equal by the second
pub record AreInNextOrder (before : List (List ℤ)) (groups : List Group) : Type 0 where
  pub rising : (i j : ℕ) → i ≤ j → j < length groups → (group_at groups i).order ≤ (group_at groups j).order
  pub level : (i j : ℕ) → i < length groups → j < length groups
      → (group_at groups i).order ≡ (group_at groups j).order
      → drop 2 (front before groups i) ≡ drop 2 (front before groups j)
  pub further : (i j : ℕ) → i < length groups → j < length groups
      → (group_at groups i).order < (group_at groups j).order
      → slice_cmp int_cmp (drop 2 (front before groups i)) (drop 2 (front before groups j)) ≡ Less
  pub tails : (i j : ℕ) → i < j → j < length groups
      → window_cmp (drop 1 (front before groups i)) (drop 1 (front before groups j)) ≡ Less

-- each window of a list is below all that are to come
abbrev pub StandBefore : List (List ℤ) → (List ℤ → Type 0) → Type 0
StandBefore now Comes = (x next : List ℤ) → Contains now x → Comes next → window_cmp x next ≡ Less

-- each window of a list has the place of a group whose windows lead to it
pub record HavePlaces (before : List (List ℤ)) (groups : List Group) (windows : List (List ℤ)) (places : List ℕ)
    : Type 0 where
  pub one_each : length places ≡ length windows
  pub within : (i : ℕ) → i < length windows → slice_index places i < length groups
  pub leads : (i : ℕ) → i < length windows → Extends (front before groups (slice_index places i)) (node_at windows i)
