use Rattle.std.proofs.Common.{arith}
use Rattle.cps_problem.proofs.AtRank.{flight_is, spans_are}
use Rattle.cps_problem.proofs.problem.Problem.open_span.Goals as goal

pub returns-clause-span : goal.returns-clause-span
returns-clause-span c = grind (arith, flight_is, spans_are)
