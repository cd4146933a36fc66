-- The nodes of a stage: the ranks that a prefix has placed, the last of them, how early it can be landed, and how
-- cheaply.
use Rattle.std.specs.Prelude.{◌≡◌, ℕ, ◌<◌, ◌≤◌, ◌⊎◌, ◌↔◌, List, length, slice_index_or}
use Rattle.precedence.specs.Pairs.{HasBit}
use Rattle.landing_rules.specs.Problem.{Problem}
use Rattle.cps_theory.specs.RankLists.{In}
use Rattle.cps_theory.specs.Separation.{Landing}
use Rattle.cps_theory.specs.LandingTrail.{cost_of, last_rank, latest_landing, ranks}
use Rattle.cps_theory.specs.ProblemNetwork.{LandedIn}
use Rattle.landing_joint.specs.RankedProblem.{ranked, cost_at}
use Rattle.landing_joint.specs.CompletingPairs.{IsLegal}
use Rattle.first_best.specs.declared.node.EarlyNode.{EarlyNode}

abbrev pub no_node : EarlyNode
no_node = record { placed = 0; last = 0; earliest = 0; cheapest = 0 }

abbrev pub node_at : List EarlyNode → ℕ → EarlyNode
node_at nodes i = slice_index_or nodes i no_node

-- a prefix, the latest rank first, is of this node
pub record IsPrefixOf (rs : List ℕ) (node : EarlyNode) : Type 0 where
  pub placed : (x : ℕ) → HasBit node.placed x ↔ In x rs
  pub last : last_rank rs ≡ node.last

-- landings of a legal prefix of a stage
pub record IsLandedPrefix (p : Problem) (stage : ℕ) (xs : List Landing) : Type 0 where
  pub legal : IsLegal p (ranks xs)
  pub landed : LandedIn (ranked p) xs
  pub long : length (ranks xs) ≡ stage

-- some landed prefix of a stage is of this node
pub record IsReached (p : Problem) (stage : ℕ) (node : EarlyNode) : Type 0 where
  pub landings : List Landing
  pub prefix : IsLandedPrefix p stage landings
  pub of_node : IsPrefixOf (ranks landings) node
  pub earliest : (latest_landing landings).1 ≡ node.earliest

-- the nodes of a stage: each has its landed prefixes, of which none is earlier or costs less than it says, and each
-- landed prefix has its node
pub record AreNodesOf (p : Problem) (stage : ℕ) (nodes : List EarlyNode) : Type 0 where
  pub reached : (j : ℕ) → j < length nodes → IsReached p stage (node_at nodes j)
  pub least : (j : ℕ) (xs : List Landing) → j < length nodes → IsLandedPrefix p stage xs
      → IsPrefixOf (ranks xs) (node_at nodes j)
      → (node_at nodes j).earliest ≤ (latest_landing xs).1
  pub cheap : (j : ℕ) (xs : List Landing) → j < length nodes → IsLandedPrefix p stage xs
      → IsPrefixOf (ranks xs) (node_at nodes j)
      → (node_at nodes j).cheapest ≤ cost_of (cost_at p) xs
  pub every : (xs : List Landing) → IsLandedPrefix p stage xs → (j : ℕ) × (j < length nodes)
      × IsPrefixOf (ranks xs) (node_at nodes j)

-- a node places one rank more than another: its last
pub record LeadsTo (before after : EarlyNode) : Type 0 where
  pub is_new : HasBit before.placed after.last → ⊥
  pub placed : (x : ℕ) → HasBit after.placed x ↔ (HasBit before.placed x ⊎ (x ≡ after.last))
