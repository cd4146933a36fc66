-- The choice of the next rank of the first best order, by the pairs that complete the nodes of the next stage.
use Rattle.std.specs.Prelude.{◌≡◌, ℕ, ◌+◌, ◌<◌, ◌≤◌, List, length, nat_lt, Option, Some, None, MatchOption}
use Rattle.std.specs.Prelude.{if◌then◌else◌}
use Rattle.landing_rules.specs.Problem.{Problem}
use Rattle.cps_theory.specs.Labels.{InPairs, Pair}
use Rattle.landing_joint.specs.RankedProblem.{cost_at, landing_after}
use Rattle.cps_network.specs.Pairs.{list_at}
use Rattle.first_best.specs.declared.node.EarlyNode.{EarlyNode}
use Rattle.first_best.specs.Nodes.{node_at, LeadsTo}

-- behind a prefix that cost this, the last flight of a node lands first at this second, and a pair of the node says
-- that the order can be ended within the budget
pub record IsAffordable (p : Problem) (budget : ℕ) (before : EarlyNode) (cost : ℕ) (after : EarlyNode)
    (pairs : List Pair) (second : ℕ) : Type 0 where
  pub lands : landing_after p before.last before.earliest after.last ≡ Some second
  pub pair : Pair
  pub listed : InPairs pair pairs
  pub in_time : second ≤ pair.0
  pub cheap : cost + cost_at p after.last second + pair.1 ≤ budget

-- such a second, or none where there is none
abbrev pub FindsAffordable : Problem → ℕ → EarlyNode → ℕ → EarlyNode → List Pair → Option ℕ → Type 0
FindsAffordable p budget before cost after pairs found =
    MatchOption found ((t : ℕ) → IsAffordable p budget before cost after pairs t
    → ⊥) (λ t. IsAffordable p budget before cost after pairs t)

-- a rank may come next at a second: it is the last of a node that the prefix leads to, and the order can then be ended
pub record IsChoice (p : Problem) (budget : ℕ) (before : EarlyNode) (cost : ℕ) (nodes : List EarlyNode)
    (lists : List (List Pair)) (rank second : ℕ) : Type 0 where
  pub place : ℕ
  pub within : place < length nodes
  pub last : (node_at nodes place).last ≡ rank
  pub leads : LeadsTo before (node_at nodes place)
  pub affordable : IsAffordable p budget before cost (node_at nodes place) (list_at lists place) second

-- this choice, or that of a rank found in its place where that is less
abbrev pub lesser_choice : Pair → ℕ → Option ℕ → Pair
lesser_choice least rank None = least
lesser_choice least rank (Some t) = if nat_lt rank least.0 then (rank, t) else least

-- the least choice, where there is one
abbrev pub IsLeastChoice : Problem → ℕ → EarlyNode → ℕ → List EarlyNode → List (List Pair) → Pair → Type 0
IsLeastChoice p budget before cost nodes lists least =
    (r t : ℕ) → IsChoice p budget before cost nodes lists r t
    → IsChoice p budget before cost nodes lists least.0 least.1 × (least.0 ≤ r)

-- such a second by way of a node to which the prefix leads, or none where there is none
abbrev pub FindsWay : Problem → ℕ → EarlyNode → ℕ → EarlyNode → List Pair → Option ℕ → Type 0
FindsWay p budget before cost after pairs found =
    MatchOption found ((t : ℕ) → LeadsTo before after → IsAffordable p budget before cost after pairs t
    → ⊥) (λ t. LeadsTo before after × IsAffordable p budget before cost after pairs t)

-- a choice, or that by way of a node in its place where that is less
abbrev pub IsLesserBy : Problem → ℕ → EarlyNode → ℕ → EarlyNode → List Pair → Pair → Pair → Type 0
IsLesserBy p budget before cost after pairs least made =
    (found : Option ℕ) × FindsWay p budget before cost after pairs found × (made ≡ lesser_choice least after.last found)
