use Rattle.std.proofs.Common.{◌-◌, ◌*◌, ◌≤◌, ap₂, arith}
use Rattle.landing_rules.specs.Problem.{Waiting}
use Rattle.cps_problem.specs.Seen.{waiting_of}
use Rattle.cps_problem.proofs.AtRank.{flight_is, all_of}
use Rattle.cps_problem.proofs.problem.Problem.cost.Goals as goal

light : (c : goal.After-saturating_sub)
    → c.flight-flight.result.now.weight * c.saturating_sub.result ≤ 100 * c.args.second
light c =
    let w = all_of (λ (f : Waiting). (1 ≤ f.weight) × (f.weight ≤ 100)) c.args.self.now.flights (c.args.rank - 1)
    (waiting_of c.flight-flight.result.now) c.head.ensures.well_formed.weights c.flight-flight.ensures in
    grind arith

pub overflow_mul-result : goal.overflow_mul-result
overflow_mul-result c = let a = light c in let b = c.requires.second in omega arith

pub returns-in-Delay-clause-value : goal.returns-in-Delay-clause-value
returns-in-Delay-clause-value c = grind (arith, ap₂, flight_is)

pub returns-in-Delay-clause-small : goal.returns-in-Delay-clause-small
returns-in-Delay-clause-small c = light c
