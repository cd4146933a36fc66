-- The pairs by which a node can still be completed, from those of the nodes that it leads to.
use Rattle.std.specs.Prelude.{◌≡◌, ℕ, ◌+◌, ◌-◌, ◌*◌, ◌<◌, ◌≤◌, ◌⊎◌, List, [], ◌∷◌, length, slice_index_or, true}
use Rattle.std.specs.Prelude.{Option, Some, None, MatchOption}
use Rattle.cps_base.specs.Limits.{dearest_landing}
use Rattle.landing_rules.specs.Rules.{last_second}
use Rattle.landing_rules.specs.Problem.{Problem}
use Rattle.cps_theory.specs.Labels.{InPairs, Pair}
use Rattle.cps_theory.specs.CompletingPairs.{NoEarlierNoDearer}
use Rattle.landing_joint.specs.RankedProblem.{ranked, cost_at, landing_after}
use Rattle.landing_joint.specs.CompletingPairs.{is_low}
use Rattle.cps_network.specs.Pairs.{list_at}
use Rattle.first_best.specs.declared.node.EarlyNode.{EarlyNode}
use Rattle.first_best.specs.Nodes.{node_at, LeadsTo}

-- the nodes of a stage, the pairs that complete each, and the place of the node of each window
pub record StageAhead : Type 0 where
  pub nodes : List EarlyNode
  pub lists : List (List Pair)
  pub places : List ℕ

abbrev pub no_stage : StageAhead
no_stage = record { nodes = []; lists = []; places = [] }

-- the least number of these, or none where there is none
abbrev pub IsLeastOf : (ℕ → Type 0) → Option ℕ → Type 0
IsLeastOf P found = MatchOption found ((c : ℕ) → P c → ⊥) (λ c. P c × ((d : ℕ) → P d → c ≤ d))

-- pairs that ascend in second and in cost
abbrev pub Rises : List Pair → Type 0
Rises [] = Unit {0}
Rises (q ∷ qs) = ((o : Pair) → InPairs o qs → (q.0 < o.0) × (q.1 < o.1)) × Rises qs

-- pairs that fall in both
abbrev pub Falls : List Pair → Type 0
Falls [] = Unit {0}
Falls (q ∷ qs) = ((o : Pair) → InPairs o qs → (o.0 < q.0) × (o.1 < q.1)) × Falls qs

-- a pair at or after a second costs this
abbrev pub IsCostFrom : List Pair → ℕ → ℕ → Type 0
IsCostFrom pairs second cost = (q : Pair) × InPairs q pairs × (second ≤ q.0) × (q.1 ≡ cost)

-- seconds of the two days, and the costs of so many flights
abbrev pub AreInReach : ℕ → List Pair → Type 0
AreInReach left pairs = (q : Pair) → InPairs q pairs → (q.0 ≤ last_second) × (q.1 ≤ dearest_landing * left)

-- ---- ways

-- behind a node whose last flight lands at a second, the last flight of another node lands as a pair of it allows, and
-- with those that follow costs this
pub record IsWayTo (p : Problem) (node after : EarlyNode) (pairs : List Pair) (second cost : ℕ) : Type 0 where
  pub lands_at : ℕ
  pub lands : landing_after p node.last second after.last ≡ Some lands_at
  pub pair : Pair
  pub listed : InPairs pair pairs
  pub in_time : lands_at ≤ pair.0
  pub cost_is : cost_at p after.last lands_at + pair.1 ≡ cost

-- such a way leads to a node of the next stage
pub record IsWay (p : Problem) (node : EarlyNode) (next : StageAhead) (second cost : ℕ) : Type 0 where
  pub place : ℕ
  pub within : place < length next.nodes
  pub leads : LeadsTo node (node_at next.nodes place)
  pub way : IsWayTo p node (node_at next.nodes place) (list_at next.lists place) second cost

-- the places of the nodes to which a node leads
pub record AreWaysOf (node : EarlyNode) (nodes : List EarlyNode) (ways : List ℕ) : Type 0 where
  pub within : (i : ℕ) → i < length ways → slice_index_or ways i 0 < length nodes
  pub lead : (i : ℕ) → i < length ways → LeadsTo node (node_at nodes (slice_index_or ways i 0))
  pub every : (j : ℕ) → j < length nodes → LeadsTo node (node_at nodes j) → (i : ℕ) × (i < length ways)
      × (slice_index_or ways i 0 ≡ j)

-- what is left behind a node whose last flight lands at a second costs this: nothing at the last stage
abbrev pub IsEnd : Problem → ℕ → EarlyNode → StageAhead → ℕ → ℕ → Type 0
IsEnd p stage node next second cost =
    ((stage ≡ length p.flights) × (cost ≡ 0)) ⊎ ((stage < length p.flights) × IsWay p node next second cost)

-- a pair of a node: its last flight lands at an open second at or after the node's earliest, that the value allows
pub record IsPairOf (p : Problem) (v stage : ℕ) (node : EarlyNode) (next : StageAhead) (q : Pair) : Type 0 where
  pub opened : (ranked p).is_open node.last q.0 ≡ true
  pub reached : node.earliest ≤ q.0
  pub low : is_low p v q.0 ≡ true
  pub end : IsEnd p stage node next q.0 q.1

-- behind prefixes of which none costs less than this a budget has room for a cost; with no budget there is always room
abbrev pub IsWithinBudget : Option ℕ → ℕ → ℕ → Type 0
IsWithinBudget None cheapest cost = Unit {0}
IsWithinBudget (Some budget) cheapest cost = cheapest + cost ≤ budget

-- pairs of a node that fall, and each of its pairs from a second on for which there is room has one of these at least
-- as late and at most as dear
pub record AreFalling (p : Problem) (v : ℕ) (budget : Option ℕ) (stage : ℕ) (node : EarlyNode)
    (next : StageAhead) (from : ℕ) (pairs : List Pair) : Type 0 where
  pub are : (q : Pair) → InPairs q pairs → IsPairOf p v stage node next q × (from ≤ q.0)
  pub cover : (q : Pair) → IsPairOf p v stage node next q → from ≤ q.0 → IsWithinBudget budget node.cheapest q.1
      → (o : Pair) × InPairs o pairs × NoEarlierNoDearer o q
  pub falling : Falls pairs
  pub in_reach : AreInReach (length p.flights - stage) pairs

-- pairs of a node that ascend, and each pair of it for which there is room has one of these at least as late and at
-- most as dear
pub record ArePairsOf (p : Problem) (v : ℕ) (budget : Option ℕ) (stage : ℕ) (node : EarlyNode)
    (next : StageAhead) (pairs : List Pair) : Type 0 where
  pub are : (q : Pair) → InPairs q pairs → IsPairOf p v stage node next q
  pub cover : (q : Pair) → IsPairOf p v stage node next q → IsWithinBudget budget node.cheapest q.1
      → (o : Pair) × InPairs o pairs × NoEarlierNoDearer o q
  pub rising : Rises pairs
  pub in_reach : AreInReach (length p.flights - stage) pairs

-- a list of pairs for each of these nodes of a stage, from those of the next stage
pub record AreListsOf (p : Problem) (v : ℕ) (budget : Option ℕ) (stage : ℕ) (nodes : List EarlyNode)
    (next : StageAhead) (lists : List (List Pair)) : Type 0 where
  pub one_each : length lists ≡ length nodes
  pub pairs : (j : ℕ) → j < length nodes → ArePairsOf p v budget stage (node_at nodes j) next (list_at lists j)
