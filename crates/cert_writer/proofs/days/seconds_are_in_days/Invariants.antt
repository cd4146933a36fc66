use Rattle.std.proofs.Common.{ℕ, ◌≤◌, ◌<◌}
use Rattle.landing_rules.specs.Rules.{last_second}
use Rattle.cps_theory.specs.RankLists.{of_rank}
use Rattle.cert_writer.proofs.days.seconds_are_in_days.Given as goal

abbrev pub invariant-loop-rank : goal.invariant-loop-rank
invariant-loop-rank l = (r : ℕ) → 1 ≤ r → r < l.rank → of_rank 0 l.schedule r ≤ last_second
