-- The windows of a stage with their pairs, as entries of the nodes of a certificate: a node has the pairs of all
-- windows that belong to it.
use Rattle.std.specs.Prelude.{◌≡◌, ℕ, ℤ, ◌<◌, ◌≤◌, List, length}
use Rattle.landing_rules.specs.Problem.{Problem}
use Rattle.cps_theory.specs.Labels.{InPairs, Pair}
use Rattle.cps_theory.specs.LegalPrefix.{Legal}
use Rattle.cps_theory.specs.Network.{Kept}
use Rattle.cps_theory.specs.Patterns.{PatternNode, pattern_node}
use Rattle.landing_joint.specs.RankedProblem.{ranked}
use Rattle.cps_network.specs.Lists.{node_at}
use Rattle.cps_network.specs.Nodes.{latest, node_of}
use Rattle.cps_network.specs.Pairs.{HoldsCosts, list_at}
use Rattle.cps_network.specs.WindowRanks.{TellsPlaced}
use Rattle.cert_check.specs.PlacedBits.{digits_of}
use Rattle.certificate.specs.States.{State}
use Rattle.cert_check.specs.Whole.{Attains, AreWholeStates}
use Rattle.cert_check.specs.shared.KeptPairs.{HoldAllEntries}

-- the window of a stage belongs to the node: each legal prefix that ends in it has this node
abbrev pub IsWindowOf : Problem → ℕ → List ℤ → PatternNode → Type 0
IsWindowOf p stage xs d = (rs : List ℕ) → Legal (ranked p).rules rs → node_of p.k rs ≡ (stage, xs)
    → pattern_node (ranked p).rules rs ≡ d

-- some window of the stage belongs to this node, and its list has this pair
pub record IsEntry (p : Problem) (stage : ℕ × List (List ℤ)) (lists : List (List Pair)) (d : PatternNode)
    (q : Pair) : Type 0 where
  pub place : ℕ
  pub within : place < length stage.1
  pub node : IsWindowOf p stage.0 (node_at stage.1 place) d
  pub has : InPairs q (list_at lists place)

-- the digits of the ranks that a window places, and its last rank, are its node
abbrev pub PlacedTellNodes : Problem → Type 0
PlacedTellNodes p = (stage placed : ℕ) (xs : List ℤ) → TellsPlaced xs stage placed
    → IsWindowOf p stage xs (stage, digits_of p.k stage placed, latest (stage, xs))

-- the entries of a stage keep the pairs of each of its nodes
abbrev pub EntriesKeepNodes : Problem → Type 0
EntriesKeepNodes p = (stage : ℕ × List (List ℤ)) (lists : List (List Pair)) → HoldsCosts p stage lists
    → (d : PatternNode) → d.0 ≡ stage.0 → Kept (Attains p d) (IsEntry p stage lists d)

-- no node is behind the last flight
abbrev pub EndWithFlights : Problem → Type 0
EndWithFlights p = (d : PatternNode) (q : Pair) → Attains p d q → d.0 ≤ length p.flights

-- ---- all stages

-- an entry of the stage of its node
abbrev pub IsEntryOf : Problem → (ℕ → ℕ × List (List ℤ)) → (ℕ → List (List Pair)) → PatternNode → Pair → Type 0
IsEntryOf p stages lists d q = (d.0 ≤ length p.flights) × IsEntry p (stages d.0) (lists d.0) d q

-- each stage behind the start has its number, and these are its landable windows with their pairs
abbrev pub AreStagesWith : Problem → (ℕ → ℕ × List (List ℤ)) → (ℕ → List (List Pair)) → Type 0
AreStagesWith p stages lists =
    (i : ℕ) → 1 ≤ i → i ≤ length p.flights → ((stages i).0 ≡ i) × HoldsCosts p (stages i) (lists i)

-- states that hold all entries of the stages leave nothing out
abbrev pub StagesMakeStates : Problem → Type 0
StagesMakeStates p = (stages : ℕ → ℕ × List (List ℤ)) (lists : ℕ → List (List Pair)) (ss : List State)
    → AreStagesWith p stages lists
    → HoldAllEntries (IsEntryOf p stages lists) ss → AreWholeStates p ss
