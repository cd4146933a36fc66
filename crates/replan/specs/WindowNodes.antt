-- The windows of a stage, put together by node.
use Rattle.std.specs.Prelude.{◌≡◌, ℕ, ℤ, pos, ◌<◌, ◌≤◌, ◌⊎◌, ◌↔◌, [], ◌∷◌, ◌++◌, List, length, min, slice_index_or}
use Rattle.std.specs.Prelude.{Option}
use Rattle.landing_rules.specs.Rules.{last_second}
use Rattle.cps_nodes.specs.Windows.{IsPlaced}
use Rattle.cps_theory.specs.Labels.{InPairs, Pair}
use Rattle.cps_theory.specs.UndominatedPairs.{Staircase}
use Rattle.cps_network.specs.Lists.{node_at}
use Rattle.cps_network.specs.Nodes.{latest}
use Rattle.cps_network.specs.Pairs.{list_at, pair_at}
use Rattle.cps_network.specs.WindowRanks.{TellsPlaced}
use Rattle.cps_network.specs.declared.node.Node.{Node}
use Rattle.replan.specs.Held.{HeldProblem}
use Rattle.replan.specs.Labels.{last_pair}
use Rattle.replan.specs.Readers.{IsReadable, lists_in, stage_in}

-- windows of a stage are of one node: they place the same ranks, and the same one last
pub record AreOneNode (stage : ℕ) (xs ys : List ℤ) : Type 0 where
  pub placed : (rank : ℕ) → 1 ≤ rank → IsPlaced xs (pos stage) (pos rank) ↔ IsPlaced ys (pos stage) (pos rank)
  pub last : latest (stage, xs) ≡ latest (stage, ys)

-- a stage, the place of the node of each of its windows, and the place of the first window of each node
pub record WindowNodes : Type 0 where
  pub stage : ℕ
  pub places : List ℕ
  pub firsts : List ℕ

-- the same for another stage
abbrev pub renumbered : WindowNodes → ℕ → WindowNodes
renumbered nodes stage = record nodes { stage = stage }

-- a place that is told at an index
abbrev pub told_at : List ℕ → ℕ → ℕ
told_at places i = slice_index_or places i 0

-- the first windows of a stage are put together: each stands with the first window of its node, and no node stands
-- twice
pub record ArePutTogether (stage : ℕ) (windows : List (List ℤ)) (count : ℕ) (places firsts : List ℕ) : Type 0 where
  pub long : length places ≡ count
  pub within : (i : ℕ) → i < count → told_at places i < length firsts
  pub first : (j : ℕ) → j < length firsts → told_at firsts j < count
  pub own : (j : ℕ) → j < length firsts → told_at places (told_at firsts j) ≡ j
  pub one : (i : ℕ) → i < count → AreOneNode stage (node_at windows (told_at firsts (told_at places i)))
      (node_at windows i)
  pub apart : (i j : ℕ) → i < length firsts → j < length firsts
      → AreOneNode stage (node_at windows (told_at firsts i)) (node_at windows (told_at firsts j)) → i ≡ j

-- all windows of a stage that is held are put together
pub record AreNodesOf (held : Option HeldProblem) (stage : ℕ) (nodes : WindowNodes) : Type 0 where
  pub stage_is : nodes.stage ≡ stage
  pub together : ArePutTogether stage (stage_in held stage).1 (length (stage_in held stage).1) nodes.places nodes.firsts

-- those of some stage that may be read, or of none
abbrev pub AreNodesOfSome : Option HeldProblem → WindowNodes → Type 0
AreNodesOfSome held nodes = 1 ≤ nodes.stage → IsReadable held nodes.stage × AreNodesOf held nodes.stage nodes

-- ---- while they are put together

abbrev pub no_node : Node
no_node = record { placed = 0; last = 0 }

abbrev pub seen_at : List Node → ℕ → Node
seen_at nodes j = slice_index_or nodes j no_node

-- they place the same ranks, and the same one last
abbrev pub AreSame : Node → Node → Type 0
AreSame a b = (a.placed ≡ b.placed) × (a.last ≡ b.last)

-- each node that was seen is that of its first window
pub record AreSeen (stage : ℕ) (windows : List (List ℤ)) (firsts : List ℕ) (nodes : List Node) : Type 0 where
  pub one_each : length nodes ≡ length firsts
  pub placed : (j : ℕ) → j < length firsts → TellsPlaced (node_at windows (told_at firsts j)) stage
      (seen_at nodes j).placed
  pub last : (j : ℕ) → j < length firsts → (seen_at nodes j).last ≡ latest (stage, node_at windows (told_at firsts j))

-- the node was seen at this place
pub record IsSeenAt (nodes : List Node) (node : Node) (place : ℕ) : Type 0 where
  pub within : place < length nodes
  pub here : AreSame (seen_at nodes place) node

-- it was not seen
abbrev pub IsNew : List Node → Node → Type 0
IsNew nodes node = (j : ℕ) → j < length nodes → AreSame (seen_at nodes j) node → ⊥

-- a node that was seen keeps its place, and a new one comes behind the others, with the window at place i
pub record IsKept (nodes seen : List Node) (firsts first : List ℕ) (node : Node) (place : ℕ) : Type 0 where
  pub there : IsSeenAt nodes node place
  pub same_nodes : seen ≡ nodes
  pub same_firsts : first ≡ firsts

pub record IsPut (nodes seen : List Node) (firsts first : List ℕ) (node : Node) (i place : ℕ) : Type 0 where
  pub last : place ≡ length nodes
  pub is_new : IsNew nodes node
  pub one_node : seen ≡ nodes ++ node ∷ []
  pub one_first : first ≡ firsts ++ i ∷ []

abbrev pub IsKeptOrPut : List Node → List Node → List ℕ → List ℕ → Node → ℕ → ℕ → Type 0
IsKeptOrPut nodes seen firsts first node i place = IsKept nodes seen firsts first node place
    ⊎ IsPut nodes seen firsts first node i place

-- ---- the least of the pairs of a node

-- the second of the first pair and the cost of the last one
abbrev pub extremes : List Pair → Pair
extremes pairs = ((pair_at pairs 0).0, (last_pair pairs).1)

-- the lesser second and the lesser cost
abbrev pub lesser : Pair → Pair → Pair
lesser a b = (min a.0 b.0, min a.1 b.1)

-- one of the windows with this place has this pair
pub record IsPairAt (lists : List (List Pair)) (places : List ℕ) (place : ℕ) (q : Pair) : Type 0 where
  pub window : ℕ
  pub within : window < length places
  pub of_node : told_at places window ≡ place
  pub has : InPairs q (list_at lists window)

-- a second and a cost: no pair is earlier or cheaper, one is as early, and one as cheap
pub record AreLeast (P : Pair → Type 0) (least : Pair) : Type 0 where
  pub early : (q : Pair) → P q → least.0 ≤ q.0
  pub cheap : (q : Pair) → P q → least.1 ≤ q.1
  pub earliest : (q : Pair) × P q × (q.0 ≡ least.0)
  pub cheapest : (q : Pair) × P q × (q.1 ≡ least.1)

-- those of each node
pub record AreLeastOf (lists : List (List Pair)) (nodes : WindowNodes) (least : List Pair) : Type 0 where
  pub one_each : length least ≡ length nodes.firsts
  pub each : (j : ℕ) → j < length nodes.firsts → AreLeast (IsPairAt lists nodes.places j) (pair_at least j)

-- in a stage that is held
abbrev pub AreLeastIn : Option HeldProblem → ℕ → WindowNodes → List Pair → Type 0
AreLeastIn held stage nodes least = AreLeastOf (lists_in held stage) nodes least

-- each second is of the two days
abbrev pub AreInDays : List Pair → Type 0
AreInDays pairs = (j : ℕ) → (pair_at pairs j).0 ≤ last_second

-- ---- while they are found

-- each window has its node, each node its first window, and each list a pair, of which the first is the earliest and
-- the last the cheapest
pub record HaveLeast (lists : List (List Pair)) (nodes : WindowNodes) : Type 0 where
  pub long : length nodes.places ≡ length lists
  pub within : (i : ℕ) → i < length nodes.places → told_at nodes.places i < length nodes.firsts
  pub first : (j : ℕ) → j < length nodes.firsts → told_at nodes.firsts j < length nodes.places
  pub own : (j : ℕ) → j < length nodes.firsts → told_at nodes.places (told_at nodes.firsts j) ≡ j
  pub some : (i : ℕ) → i < length lists → 0 < length (list_at lists i)
  pub falling : (i : ℕ) → i < length lists → Staircase (list_at lists i)

-- of the first windows none is earlier or cheaper, and each node has one that is as early and one as cheap
pub record AreLeastUpto (lists : List (List Pair)) (places firsts : List ℕ) (count : ℕ)
    (least : List Pair) : Type 0 where
  pub one_each : length least ≡ length firsts
  pub early : (i : ℕ) → i < count → (pair_at least (told_at places i)).0 ≤ (extremes (list_at lists i)).0
  pub cheap : (i : ℕ) → i < count → (pair_at least (told_at places i)).1 ≤ (extremes (list_at lists i)).1
  pub earliest : (j : ℕ) → j < length firsts
      → (i : ℕ) × (i < length places) × (told_at places i ≡ j) × ((pair_at least j).0 ≡ (extremes (list_at lists i)).0)
  pub cheapest : (j : ℕ) → j < length firsts
      → (i : ℕ) × (i < length places) × (told_at places i ≡ j) × ((pair_at least j).1 ≡ (extremes (list_at lists i)).1)
