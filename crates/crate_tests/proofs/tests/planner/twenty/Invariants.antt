use Rattle.std.proofs.Common.{◌≡◌}
use Rattle.crate_tests.proofs.tests.planner.twenty.Given as goal

abbrev pub invariant-loop-number : goal.invariant-loop-number
invariant-loop-number l = l.bank.k ≡ l.k
