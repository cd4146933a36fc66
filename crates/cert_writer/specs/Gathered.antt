-- The pairs of the windows of a stage, put together by the slot of their node.
use Rattle.std.specs.Prelude.{◌≡◌, ℕ, ℤ, ◌*◌, ◌^◌, ◌<◌, ◌≤◌, ◌⊎◌, List, length, All}
use Rattle.cps_base.specs.Limits.{greatest_word}
use Rattle.landing_rules.specs.Problem.{Problem}
use Rattle.landing_rules.specs.Rules.{last_second}
use Rattle.cps_theory.specs.Labels.{InPairs, NoWorse, Pair}
use Rattle.cps_theory.specs.Patterns.{PatternNode}
use Rattle.cps_network.specs.Lists.{node_at}
use Rattle.cps_network.specs.Nodes.{latest}
use Rattle.cps_network.specs.Pairs.{list_at}
use Rattle.cps_network.specs.WindowRanks.{TellsPlaced}
use Rattle.cert_check.specs.PlacedBits.{digits_of}
use Rattle.replan.specs.WindowNodes.{told_at}
use Rattle.cert_writer.specs.StageEntries.{IsEntry}
use Rattle.cert_writer.specs.Slots.{HasSlot}

-- a pair's second is one of the two days, and its cost a number of a certificate
abbrev pub IsPairInRange : Pair → Type 0
IsPairInRange q = (q.0 ≤ last_second) × (q.1 ≤ greatest_word)

-- a list has such pairs alone; and of each such pair one that is no later and no dearer
abbrev pub HasOnly : List Pair → (Pair → Type 0) → Type 0
HasOnly list P = (q : Pair) → InPairs q list → P q

abbrev pub HasBetter : List Pair → (Pair → Type 0) → Type 0
HasBetter list P = (q : Pair) → P q → (o : Pair) × InPairs o list × NoWorse o q

-- a pair of either list
abbrev pub IsOfEither : List Pair → List Pair → Pair → Type 0
IsOfEither left right q = InPairs q left ⊎ InPairs q right

-- one of the first windows of the stage belongs to this node, and its list has this pair
abbrev pub IsEntryBefore : Problem → ℕ × List (List ℤ) → List (List Pair) → ℕ → PatternNode → Pair → Type 0
IsEntryBefore p stage lists count d q = (e : IsEntry p stage lists d q) × (e.place < count)

-- the slots have pairs of the first windows alone, each those of its node; and of each such pair one that is no later
-- and no dearer
pub record AreGathered (p : Problem) (stage : ℕ × List (List ℤ)) (lists : List (List Pair))
    (count : ℕ) (slots : List (List Pair)) : Type 0 where
  pub room : length slots ≡ 8 * 2 ^ (2 * p.k)
  pub found : (slot : ℕ) (q : Pair) → InPairs q (list_at slots slot)
      → (d : PatternNode) × (d.0 ≡ stage.0) × HasSlot p.k d slot × IsEntryBefore p stage lists count d q
  pub covers : (slot : ℕ) (d : PatternNode) (q : Pair) → d.0 ≡ stage.0 → HasSlot p.k d slot
      → IsEntryBefore p stage lists count d q
      → (o : Pair) × InPairs o (list_at slots slot) × NoWorse o q
  pub in_range : (slot : ℕ) → All IsPairInRange (list_at slots slot)

-- a window of a stage has this slot: that of the node of its ranks
pub record IsSlotOf (k stage : ℕ) (window : List ℤ) (slot : ℕ) : Type 0 where
  pub placed : ℕ
  pub told : TellsPlaced window stage placed
  pub has : HasSlot k (stage, digits_of k stage placed, latest (stage, window)) slot

-- the first nodes of a stage have these slots: those of their first windows
pub record HaveSlots (k stage : ℕ) (windows : List (List ℤ)) (firsts : List ℕ) (count : ℕ)
    (slots : List ℕ) : Type 0 where
  pub long : length slots ≡ count
  pub each : (j : ℕ) → j < count → IsSlotOf k stage (node_at windows (told_at firsts j)) (told_at slots j)
