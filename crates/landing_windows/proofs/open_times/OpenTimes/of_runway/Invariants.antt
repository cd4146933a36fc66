-- The spans so far hold exactly the open seconds before `from`.
use Rattle.std.proofs.Common.{◌+◌, ◌-◌}
use Rattle.landing_rules.specs.Rules.{last_second}
use Rattle.landing_windows.specs.Runs.{IsOpenUpTo}
use Rattle.landing_windows.proofs.open_times.OpenTimes.of_runway.Given as goal

abbrev pub invariant-loop-from : goal.invariant-loop-from
invariant-loop-from l = IsOpenUpTo l.closures l.from l.spans.items

abbrev pub decreases-loop-from : goal.decreases-loop-from
decreases-loop-from l = last_second + 1 - l.from
