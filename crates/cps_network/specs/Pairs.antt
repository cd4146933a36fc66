-- The pairs of second and cost of windows: for each window exactly the undominated ones.
use Rattle.std.specs.Prelude.{◌≡◌, ℕ, ℤ, ◌<◌, ◌↔◌, List, [], length, slice_index_or, Option, Some}
use Rattle.cps_nodes.specs.Windows.{shifted}
use Rattle.cps_nodes.specs.Laws.{offset_after}
use Rattle.cps_theory.specs.Feasible.{next_from}
use Rattle.cps_theory.specs.Labels.{InPairs, NoWorse, Pair, next_pair}
use Rattle.cps_theory.specs.Network.{Undominated}
use Rattle.cps_theory.specs.UndominatedPairs.{Staircase}
use Rattle.landing_joint.specs.RankedProblem.{ranked, first_at, cost_at}
use Rattle.landing_rules.specs.Problem.{Problem}
use Rattle.cps_network.specs.Landable.{Attains, HoldsLandable}
use Rattle.cps_network.specs.Lists.{node_at}
use Rattle.cps_network.specs.Nodes.{latest}
use Rattle.cps_network.specs.Permits.{IsPermitted}

-- the pairs of a window of a stage: exactly the undominated ones that it attains, of which each that it attains has one
-- that is no later and no dearer; they ascend in second and fall in cost
pub record ArePairsOf (p : Problem) (stage : ℕ) (xs : List ℤ) (pairs : List Pair) : Type 0 where
  pub undominated : (q : Pair) → InPairs q pairs ↔ Undominated (Attains p stage xs) q
  pub covers : (q : Pair) → Attains p stage xs q → (o : Pair) × InPairs o pairs × NoWorse o q
  pub falling : Staircase pairs

-- the list at a place, and the pair at a place of a list
abbrev pub list_at : List (List Pair) → ℕ → List Pair
list_at lists i = slice_index_or lists i []

abbrev pub pair_at : List Pair → ℕ → Pair
pair_at pairs i = slice_index_or pairs i (0, 0)

-- the pairs of the windows of a stage, a list each
pub record AreCosts (p : Problem) (stage : ℕ × List (List ℤ)) (lists : List (List Pair)) : Type 0 where
  pub one_each : length lists ≡ length stage.1
  pub pairs : (i : ℕ) → i < length stage.1 → ArePairsOf p stage.0 (node_at stage.1 i) (list_at lists i)

-- these are the landable windows of a stage, with their pairs
pub record HoldsCosts (p : Problem) (stage : ℕ × List (List ℤ)) (lists : List (List Pair)) : Type 0 where
  pub landable : HoldsLandable p stage
  pub costs : AreCosts p stage lists

-- the successor of a pair whose last rank is `last`, by a rank: where that rank lands behind it, and what both cost
abbrev pub successor : Problem → ℕ → Pair → ℕ → Option Pair
successor p last q rank = next_pair (first_at p) (next_from (ranked p)) (cost_at p) last q rank

-- the window at a place of a stage leads to a window of the next by a permitted rank, by which the successor of the
-- pair at an index of its list is this pair
pub record GivesPair (p : Problem) (before : ℕ × List (List ℤ)) (lists : List (List Pair))
    (node : List ℤ) (pair : Pair) (place index : ℕ) : Type 0 where
  pub within : place < length before.1
  pub listed : index < length (list_at lists place)
  pub rank : ℕ
  pub permitted : IsPermitted p before.0 (node_at before.1 place) rank
  pub next : node ≡ shifted (node_at before.1 place) (offset_after before.0 rank)
  pub lands : successor p (latest (before.0, node_at before.1 place))
      (pair_at (list_at lists place) index) rank ≡ Some pair
