-- The spans so far and what both lists have left are what both lists hold.
use Rattle.std.proofs.Common.{◌+◌, length}
use Rattle.std.specs.Prelude.{◌&&◌}
use Rattle.landing_windows.specs.Spans.{opens}
use Rattle.landing_windows.proofs.Sweep.{IsSwept}
use Rattle.landing_windows.proofs.open_times.OpenTimes.within.Given as goal

abbrev pub invariant-loop-windows_left : goal.invariant-loop-windows_left
invariant-loop-windows_left l =
    IsSwept (λ u. opens l.windows u && opens l.self u) l.windows_left l.open_left l.spans.items

abbrev pub decreases-loop-windows_left : goal.decreases-loop-windows_left
decreases-loop-windows_left l = length l.windows_left + length l.open_left
