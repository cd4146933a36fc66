-- Windows with their stage as the nodes of a position network.
use Rattle.std.specs.Prelude.{◌≡◌, ℕ, ℤ, suc, pos, nat_abs, ◌+◌, ◌-◌, ◌*◌, ◌+ℤ◌, ◌↔◌, List, length, reverse}
use Rattle.cps_nodes.specs.Windows.{offset_at, shifted}
use Rattle.cps_nodes.specs.Ranks.{window_of}
use Rattle.cps_nodes.specs.Laws.{offset_after}
use Rattle.cps_theory.specs.LegalPrefix.{IsLegalPrefix, Legal}
use Rattle.cps_theory.specs.Network.{Network}
use Rattle.landing_joint.specs.CompletingPairs.{AreOneNode}
use Rattle.landing_joint.specs.RankedProblem.{ranked}
use Rattle.landing_rules.specs.Problem.{Problem}
use Rattle.cps_network.specs.Permits.{IsPermitted}

-- a stage and a window: a node, where `Node` is the ranks that it places and the last
abbrev pub WindowNode : Type 0
WindowNode = ℕ × List ℤ

-- the node of a prefix, whose latest rank comes first
abbrev pub node_of : ℕ → List ℕ → WindowNode
node_of k rs = (length rs, window_of (2 * k + 1) (reverse rs))

-- a rank may come next
abbrev pub permits : Problem → WindowNode → ℕ → Type 0
permits p w rank = IsPermitted p w.0 w.1 rank

-- the node when a rank has come next
abbrev pub land : WindowNode → ℕ → WindowNode
land w rank = (suc w.0, shifted w.1 (offset_after w.0 rank))

-- the latest rank, and 0 before the first
abbrev pub latest : WindowNode → ℕ
latest w = nat_abs (pos w.0 +ℤ offset_at w.1 (length w.1 - 1))

-- the windows of a problem are the nodes of the network of its legal prefixes
abbrev pub IsWindowNetwork : Problem → Type 0
IsWindowNetwork p = Network WindowNode (Legal (ranked p).rules) (node_of p.k) (permits p) land latest

-- to be legal step by step is to be legal as a whole
abbrev pub StepsAreWhole : Problem → Type 0
StepsAreWhole p = (ranks : List ℕ) → Legal (ranked p).rules ranks ↔ IsLegalPrefix (ranked p).rules ranks

-- legal prefixes of one stage and window are of one node: they place the same ranks, and the same one last
abbrev pub WindowsTellNodes : Problem → Type 0
WindowsTellNodes p = (rs os : List ℕ) → Legal (ranked p).rules rs → Legal (ranked p).rules os
    → node_of p.k rs ≡ node_of p.k os → AreOneNode rs os
