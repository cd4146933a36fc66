-- The windows of a stage, put together by node.
use Rattle.std.specs.Prelude.{◌≡◌, ℕ, ℤ, ◌-◌, ◌<◌, ◌≤◌, List, length, slice_index_or, Option}
use Rattle.cps_theory.specs.Labels.{Pair}
use Rattle.cps_network.specs.Lists as windows
use Rattle.cps_network.specs.Nodes.{latest}
use Rattle.cps_network.specs.Pairs.{list_at, pair_at}
use Rattle.cps_network.specs.WindowRanks.{TellsPlaced}
use Rattle.replan.specs.Held.{HeldProblem}
use Rattle.replan.specs.Readers.{stage_in, lists_in}
use Rattle.first_best.specs.declared.node.EarlyNode.{EarlyNode}
use Rattle.first_best.specs.Nodes.{node_at}

-- a window tells the ranks of this node
pub record IsWindowOf (stage : ℕ) (window : List ℤ) (node : EarlyNode) : Type 0 where
  pub placed : TellsPlaced window stage node.placed
  pub last : node.last ≡ latest (stage, window)

abbrev pub place_at : List ℕ → ℕ → ℕ
place_at places i = slice_index_or places i 0

-- the earliest second of the window at a place
abbrev pub second_of : List (List Pair) → ℕ → ℕ
second_of lists i = (pair_at (list_at lists i) 0).0

-- and its least cost, that of its last pair
abbrev pub cost_in : List (List Pair) → ℕ → ℕ
cost_in lists i = (pair_at (list_at lists i) (length (list_at lists i) - 1)).1

-- the first windows of a stage are put together: each has its node, which is as early as the earliest of its windows
-- and no dearer than any, and no node stands twice
pub record AreGathered (stage : ℕ × List (List ℤ)) (lists : List (List Pair)) (count : ℕ) (nodes : List EarlyNode)
    (places : List ℕ) : Type 0 where
  pub long : length places ≡ count
  pub within : (i : ℕ) → i < count → place_at places i < length nodes
  pub window : (i : ℕ) → i < count → IsWindowOf stage.0 (windows.node_at stage.1 i) (node_at nodes (place_at places i))
  pub low : (i : ℕ) → i < count → (node_at nodes (place_at places i)).earliest ≤ second_of lists i
  pub cheap : (i : ℕ) → i < count → (node_at nodes (place_at places i)).cheapest ≤ cost_in lists i
  pub source : (j : ℕ) → j < length nodes → (i : ℕ) × (i < count)
      × IsWindowOf stage.0 (windows.node_at stage.1 i) (node_at nodes j)
      × ((node_at nodes j).earliest ≡ second_of lists i)
  pub apart : (i j : ℕ) → i < length nodes → j < length nodes → (node_at nodes i).placed ≡ (node_at nodes j).placed
      → (node_at nodes i).last ≡ (node_at nodes j).last → i ≡ j

-- all windows of a stage that is held
abbrev pub IsGathered : Option HeldProblem → ℕ → List EarlyNode → List ℕ → Type 0
IsGathered held stage nodes places =
    AreGathered (stage_in held stage) (lists_in held stage) (length (stage_in held stage).1) nodes places
