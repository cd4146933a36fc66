-- Lists of windows in ascending order.
use Rattle.std.specs.Prelude.{◌≡◌, ℕ, ℤ, ◌<◌, List, [], length, slice_index_or}
use Rattle.std.specs.declared.cmp.Ordering.TheVariants.{Less}
use Rattle.cps_nodes.specs.WindowOrder.{window_cmp}
use Rattle.cps_nodes.specs.Windows.{IsWindow}

-- the window at a place of a list
abbrev pub node_at : List (List ℤ) → ℕ → List ℤ
node_at nodes i = slice_index_or nodes i []

-- each window is below those after it, so none stands twice
abbrev pub IsAscending : List (List ℤ) → Type 0
IsAscending nodes = (i j : ℕ) → i < j → j < length nodes → window_cmp (node_at nodes i) (node_at nodes j) ≡ Less

-- each is a window of this width
abbrev pub AreWindows : ℕ → List (List ℤ) → Type 0
AreWindows width nodes = (i : ℕ) → i < length nodes → IsWindow width (node_at nodes i)

-- windows of a stage: of seven places and seven offsets, so 7 to the power of 7
abbrev pub most_in_a_stage : ℕ
most_in_a_stage = 823543
