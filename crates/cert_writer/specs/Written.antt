-- States that are written as far as a node of a stage.
use Rattle.std.specs.Prelude.{◌≡◌, ℕ, ◌<◌, ◌≤◌, ◌⊎◌, List, true, All, length, Option}
use Rattle.std.specs.List.{list_all}
use Rattle.landing_rules.specs.Problem.{Problem}
use Rattle.cps_theory.specs.Labels.{Pair}
use Rattle.cps_theory.specs.Patterns.{PatternNode}
use Rattle.certificate.specs.States.{State, AreAscending, is_pair}
use Rattle.cert_check.specs.States.{node_of}
use Rattle.cert_check.specs.Whole.{HasNode}
use Rattle.cert_check.specs.shared.KeptPairs.{HoldsEntries}
use Rattle.cert_writer.specs.StageEntries.{IsEntryOf, EntriesKeepNodes, PlacedTellNodes, StagesMakeStates}
use Rattle.replan.specs.Held.{HeldProblem}
use Rattle.replan.specs.Readers.{stage_in, lists_in}
use Rattle.cert_writer.specs.Gathered.{AreGathered}
use Rattle.cert_writer.specs.Slots.{HasNumber}

-- the node is of an earlier stage, or of this one with a number below this
abbrev pub ComesBelow : ℕ → ℕ → ℕ → PatternNode → Type 0
ComesBelow k stage number d = (d.0 < stage) ⊎ ((d.0 ≡ stage) × (n : ℕ) × (n < number) × HasNumber k d n)

-- the states of the entries' nodes below this number of the stage, and no others
pub record AreWrittenBelow (k : ℕ) (Entry : PatternNode → Pair → Type 0) (stage number : ℕ)
    (ss : List State) : Type 0 where
  pub each : All (HoldsEntries Entry) ss
  pub every : (d : PatternNode) (q : Pair) → 1 ≤ d.0 → ComesBelow k stage number d → Entry d q → HasNode ss d
  pub ascending : AreAscending ss
  pub below : All (λ s. ComesBelow k stage number (node_of s)) ss
  pub in_range : All (λ s. list_all is_pair s.pairs ≡ true) ss

-- what the writer rests on: the windows of a problem tell the nodes of certificates, and states that hold all their
-- pairs leave nothing out
pub record StageLaws (p : Problem) : Type 0 where
  pub entries : EntriesKeepNodes p
  pub placed : PlacedTellNodes p
  pub whole : StagesMakeStates p

-- ---- as a planner holds them

-- the pairs of all windows of a stage, by slot
abbrev pub IsGathered : Problem → Option HeldProblem → ℕ → List (List Pair) → Type 0
IsGathered p held stage slots =
    AreGathered p (stage_in held stage) (lists_in held stage) (length (stage_in held stage).1) slots

-- the states below this number of a stage
abbrev pub IsWritten : Problem → Option HeldProblem → ℕ → ℕ → List State → Type 0
IsWritten p held stage number ss = AreWrittenBelow p.k (IsEntryOf p (stage_in held) (lists_in held)) stage number ss

-- their pairs are in the range of a certificate's
abbrev pub HavePairsInRange : List State → Type 0
HavePairsInRange ss = All (λ s. list_all is_pair s.pairs ≡ true) ss
