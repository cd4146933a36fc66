use Rattle.std.proofs.Common.{◌≡◌}
use Rattle.crate_tests.proofs.tests.stages.sixteen.Given as goal

abbrev pub invariant-loop-rank : goal.invariant-loop-rank
invariant-loop-rank l = l.bank.k ≡ l.k
