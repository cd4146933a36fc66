-- The ranks that the window of a prefix tells.
use Rattle.std.specs.Prelude.{ℕ, ℤ, pos, ◌≤◌, ◌↔◌, List, length}
use Rattle.precedence.specs.Pairs.{HasBit}
use Rattle.cps_nodes.specs.Windows.{IsPlaced}
use Rattle.cps_theory.specs.RankLists.{In}
use Rattle.cps_theory.specs.LegalPrefix.{Legal}
use Rattle.landing_joint.specs.RankedProblem.{ranked}
use Rattle.landing_rules.specs.Problem.{Problem}
use Rattle.cps_network.specs.Nodes.{node_of}

-- the window of a legal prefix places exactly its ranks, and those below 1
abbrev pub TellTheirRanks : Problem → Type 0
TellTheirRanks p = (ranks : List ℕ) (rank : ℕ) → Legal (ranked p).rules ranks → 1 ≤ rank
    → IsPlaced (node_of p.k ranks).1 (pos (length ranks)) (pos rank) ↔ In rank ranks

-- the bits of a set are the ranks, from 1 on, that a window of a stage places
abbrev pub TellsPlaced : List ℤ → ℕ → ℕ → Type 0
TellsPlaced xs stage placed = (rank : ℕ) → HasBit placed rank ↔ ((1 ≤ rank) × IsPlaced xs (pos stage) (pos rank))
