-- Entries of a column.
use Rattle.std.specs.Prelude.{ℕ, ℤ, List}
use Rattle.landing_rules.specs.Problem.{Problem}
use Rattle.cps_network.specs.Lists.{node_at}
use Rattle.makespan_labels.specs.Columns.{IsEntry}
use Rattle.makespan_labels.specs.Labels.{IsLabel}

-- this number is the label of the window at a place of a stage, and may stand in a column
pub record IsLabelAt (p : Problem) (stage : ℕ × List (List ℤ)) (place number : ℕ) : Type 0 where
  pub label : IsLabel p stage.0 (node_at stage.1 place) number
  pub entry : IsEntry number
