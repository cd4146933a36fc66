-- Two stages one after another, of which the first has its labels.
use Rattle.std.specs.Prelude.{◌≡◌, ℕ, ℤ, ◌+◌, ◌*◌, ◌≤◌, List, length}
use Rattle.cps_base.specs.Limits.{most_waiting}
use Rattle.landing_rules.specs.Problem.{Problem}
use Rattle.cps_network.specs.Permits.{IsNextOf}
use Rattle.cps_network.specs.WindowLaws.{WindowLaws}
use Rattle.makespan_labels.specs.Labels.{HoldsLabels}

-- a stage can be labelled from the stage before it: that one holds the landable windows with their labels, and the
-- windows of this one are those that extend one of them by a permitted rank
pub record CanLabel (p : Problem) (width : ℕ) (before : ℕ × List (List ℤ)) (labels : List ℕ)
    (stage : ℕ × List (List ℤ)) : Type 0 where
  pub odd : width ≡ 2 * p.k + 1
  pub few : length p.flights ≤ most_waiting
  pub laws : WindowLaws p width
  pub held : HoldsLabels p before labels
  pub number : stage.0 ≡ before.0 + 1
  pub next : IsNextOf p before.0 before.1 stage.1
