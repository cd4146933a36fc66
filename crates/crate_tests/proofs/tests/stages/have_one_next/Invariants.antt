use Rattle.std.proofs.Common.{◌≡◌, ◌+◌}
use Rattle.crate_tests.proofs.tests.stages.have_one_next.Given as goal

abbrev pub invariant-loop-number : goal.invariant-loop-number
invariant-loop-number g l = l.earlier.0 + 1 ≡ l.number
