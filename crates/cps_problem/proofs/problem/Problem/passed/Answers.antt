use Rattle.std.proofs.Common.{arith, ◌-◌, ◌≤◌}
use Rattle.landing_rules.specs.Problem.{Waiting}
use Rattle.cps_problem.specs.Seen.{waiting_of}
use Rattle.cps_problem.proofs.AtRank.{flight_is, all_of}
use Rattle.cps_problem.proofs.problem.Problem.passed.Goals as goal

pub returns-clause-value : goal.returns-clause-value
returns-clause-value c = grind (arith, flight_is)

pub returns-clause-at_most : goal.returns-clause-at_most
returns-clause-at_most c = all_of (λ (f : Waiting). f.passed ≤ c.args.self.now.k) c.args.self.now.flights
    (c.args.rank - 1) (waiting_of c.flight.result.now) c.head-counts.ensures.well_formed.passed c.flight.ensures
