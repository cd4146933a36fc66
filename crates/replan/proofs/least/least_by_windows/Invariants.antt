use Rattle.std.proofs.Common.{◌≡◌}
use Rattle.std.specs.Prelude.{IsTrue}
use Rattle.cps_network.specs.Permits.{IsNextOf}
use Rattle.replan.specs.Labels.{HoldsPairs}
use Rattle.replan.proofs.least.least_by_windows.Given as goal

abbrev pub invariant-loop-reached : goal.invariant-loop-reached
invariant-loop-reached g l = HoldsPairs l.problem l.last.stage l.last.labels × (l.last.stage.0 ≡ l._reached)
    × (IsTrue l.last.is_whole → IsNextOf l.problem l.earlier.0 l.earlier.1 l.last.stage.1)
