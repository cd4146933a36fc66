use Rattle.std.proofs.Common.{arith}
use Rattle.cps_problem.proofs.AtRank.{flight_is, first_is}
use Rattle.cps_problem.proofs.problem.Problem.first_open.Goals as goal

pub returns-clause-value : goal.returns-clause-value
returns-clause-value c = grind (arith, first_is, flight_is)

pub returns-clause-in_days : goal.returns-clause-in_days
returns-clause-in_days c = grind arith
