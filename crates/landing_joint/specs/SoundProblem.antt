-- What the laws of problems ask of one: a table that keeps its rules, pairs between ranks alone, and flights that were
-- not passed too often. The problem of a sound situation is such.
use Rattle.std.specs.Prelude.{◌≤◌, length, All}
use Rattle.wake_table.specs.Table.{IsWakeTable}
use Rattle.landing_rules.specs.Problem.{Problem, AreBetweenRanks}

pub record IsSoundProblem (p : Problem) : Type 0 where
  pub table : IsWakeTable p.table
  pub between_ranks : AreBetweenRanks (length p.flights) p.pairs
  pub passed : All (λ f. f.passed ≤ p.k) p.flights
