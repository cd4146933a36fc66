-- Labels of windows: the least second at which a legal prefix that ends in a window can land its last flight.
use Rattle.std.specs.Prelude.{◌≡◌, ℕ, ℤ, ◌<◌, ◌≤◌, List, length, slice_index, Some}
use Rattle.cps_nodes.specs.Windows.{shifted}
use Rattle.cps_nodes.specs.Laws.{offset_after}
use Rattle.landing_joint.specs.RankedProblem.{landing_after}
use Rattle.landing_rules.specs.Problem.{Problem}
use Rattle.cps_network.specs.Landable.{Attains, HoldsLandable}
use Rattle.cps_network.specs.Lists.{node_at}
use Rattle.cps_network.specs.Nodes.{latest}
use Rattle.cps_network.specs.Permits.{IsPermitted}

-- the label of a window that is not landable
abbrev pub no_label : ℕ
no_label = 4294967295

-- a window of a stage attains this second with some cost: a legal prefix ends in it whose flights can be given seconds
-- that are open and late enough one after another, the last of them t
abbrev pub CanLandAt : Problem → ℕ → List ℤ → ℕ → Type 0
CanLandAt p stage xs t = (cost : ℕ) × Attains p stage xs (t, cost)

-- the least of these seconds, or `no_label` exactly where there is none
pub record IsLeastOr (IsSecond : ℕ → Type 0) (label : ℕ) : Type 0 where
  pub attained : label < no_label → IsSecond label
  pub least : (t : ℕ) → IsSecond t → (label < no_label) × (label ≤ t)

-- the label of a window of a stage
abbrev pub IsLabel : Problem → ℕ → List ℤ → ℕ → Type 0
IsLabel p stage xs label = IsLeastOr (CanLandAt p stage xs) label

-- the labels of the windows of a stage, one each
pub record AreLabels (p : Problem) (stage : ℕ × List (List ℤ)) (labels : List ℕ) : Type 0 where
  pub one_each : length labels ≡ length stage.1
  pub label : (i : ℕ) → i < length stage.1 → IsLabel p stage.0 (node_at stage.1 i) (slice_index labels i)

-- these are the landable windows of a stage, with their labels
pub record HoldsLabels (p : Problem) (stage : ℕ × List (List ℤ)) (labels : List ℕ) : Type 0 where
  pub landable : HoldsLandable p stage
  pub labelled : AreLabels p stage labels

-- the window at a place of a stage leads to a window of the next by a permitted rank, which lands at this second behind
-- the label of that place
pub record GivesLabel (p : Problem) (before : ℕ × List (List ℤ)) (labels : List ℕ) (node : List ℤ)
    (label place : ℕ) : Type 0 where
  pub within : place < length before.1
  pub rank : ℕ
  pub permitted : IsPermitted p before.0 (node_at before.1 place) rank
  pub next : node ≡ shifted (node_at before.1 place) (offset_after before.0 rank)
  pub lands : landing_after p (latest (before.0, node_at before.1 place)) (slice_index labels place) rank ≡ Some label
