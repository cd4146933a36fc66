-- What is asked of nodes and their pairs where numbers are added up.
use Rattle.std.specs.Prelude.{ℕ, ◌≡◌, ◌+◌, ◌<◌, ◌≤◌, length}
use Rattle.landing_rules.specs.Problem.{Problem}
use Rattle.landing_rules.specs.Rules.{last_second}
use Rattle.cps_network.specs.Pairs.{list_at}
use Rattle.first_best.specs.declared.node.EarlyNode.{EarlyNode}
use Rattle.first_best.specs.Nodes.{node_at}
use Rattle.first_best.specs.Completing.{AreInReach, Rises, StageAhead}

-- the last of a node is a rank
abbrev pub HasRank : Problem → EarlyNode → Type 0
HasRank p node = (1 ≤ node.last) × (node.last ≤ length p.flights)

-- a stage behind another: its last ones are ranks, and each of its nodes has pairs in order and in range
pub record IsNextIn (p : Problem) (stage : ℕ) (next : StageAhead) : Type 0 where
  pub one_each : length next.lists ≡ length next.nodes
  pub ranks : (j : ℕ) → j < length next.nodes → HasRank p (node_at next.nodes j)
  pub rising : (j : ℕ) → Rises (list_at next.lists j)
  pub in_reach : (j left : ℕ) → stage + left + 1 ≡ length p.flights → AreInReach left (list_at next.lists j)

-- the last of a prefix is a rank, or there is none, and it landed in the two days
abbrev pub IsPlacedIn : Problem → EarlyNode → Type 0
IsPlacedIn p before = (before.last ≤ length p.flights) × (before.earliest ≤ last_second)
