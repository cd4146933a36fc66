-- Each turn passes over shut seconds, or adds the next longest run of open ones.
use Rattle.std.proofs.Common.{arith}
use Rattle.landing_windows.specs.Runs.{shut_on, all_open}
use Rattle.landing_windows.proofs.open_times.OpenTimes.of_runway.Goals as goal

pub loop-from-preserved-in-Some : goal.loop-from-preserved-in-Some
loop-from-preserved-in-Some c = shut_on _ _ c.loop-from.from _ c.loop-from.invariant c.in-Some.ensures

pub loop-from-preserved : goal.loop-from-preserved
loop-from-preserved c = grind arith

pub returns : goal.returns
returns c = rw (← c.pairs-closures.ensures.value) (all_open _ _ _ c.loop-from.invariant c.loop-from-test.false)
