use Rattle.std.proofs.Common.{◌≡◌, take}
use Rattle.cps_problem.proofs.problem.copy_all.Given as goal

abbrev pub invariant-loop-flight : goal.invariant-loop-flight
invariant-loop-flight l = l.copied.items ≡ take l.flight-index l.waiting.items
