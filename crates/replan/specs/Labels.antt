-- The labels of a stage, for either objective: for each window the list of its undominated pairs of a second and a
-- cost.
use Rattle.std.specs.Prelude.{◌≡◌, ℕ, ℤ, ◌-◌, List, length}
use Rattle.landing_rules.specs.declared.objective.Objective.{Objective}
use Rattle.landing_rules.specs.declared.objective.Objective.TheVariants.{Makespan, Delay}
use Rattle.landing_rules.specs.Problem.{Problem}
use Rattle.cps_theory.specs.Labels.{Pair}
use Rattle.cps_network.specs.Pairs.{HoldsCosts, pair_at}
use Rattle.makespan_labels.specs.LabelPairs.{column_pairs}
use Rattle.replan.specs.declared.labels.ByObjective.{ByObjective}
use Rattle.replan.specs.declared.labels.ByObjective.TheVariants.{OfColumn, OfCosts}

-- lists of pairs, and the objective that they are for
pub record StagePairs : Type 0 where
  pub objective : Objective
  pub lists : List (List Pair)

-- the labels of a stage as they are kept, seen as lists of pairs
abbrev pub pairs_of : ByObjective → StagePairs
pairs_of (OfColumn column) = record { objective = Makespan; lists = column_pairs column }
pairs_of (OfCosts costs) = record { objective = Delay; lists = costs }

-- these are the landable windows of a stage, with their pairs
pub record HoldsPairs (p : Problem) (stage : ℕ × List (List ℤ)) (labels : StagePairs) : Type 0 where
  pub objective : labels.objective ≡ p.objective
  pub held : HoldsCosts p stage labels.lists

-- of these candidates the landable windows, with their pairs; where they are as many, they are the candidates
pub record AreLandableOf (p : Problem) (candidates stage : ℕ × List (List ℤ)) (labels : StagePairs) : Type 0 where
  pub held : HoldsPairs p stage labels
  pub number : stage.0 ≡ candidates.0
  pub all : length stage.1 ≡ length candidates.1 → stage.1 ≡ candidates.1

-- the last pair of a list, which is its cheapest where the list falls in cost
abbrev pub last_pair : List Pair → Pair
last_pair pairs = pair_at pairs (length pairs - 1)

-- what a pair is worth: its second for the makespan, and its cost for the weighted delay
abbrev pub worth : Objective → Pair → ℕ
worth Makespan q = q.0
worth Delay q = q.1
