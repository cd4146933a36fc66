use Rattle.std.proofs.Common.{◌≡◌}
use Rattle.replan.specs.Kept.{k_of}
use Rattle.crate_tests.proofs.tests.planner.stages_in_common_are_not_counted.Given as goal

abbrev pub invariant-loop-third : goal.invariant-loop-third
invariant-loop-third g l = k_of l.planner ≡ 1
