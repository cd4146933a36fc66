use Rattle.std.proofs.Common.{rules, tests}
use Rattle.cps_problem.specs.FirstDifference.{HaveSameAt}
use Rattle.cps_theory.specs.laws.Ranges.{all_in_range}
use Rattle.cps_problem.proofs.problem.Problem.has_same_predecessors.Goals as goal

pub returns : goal.returns
returns c = all_in_range (HaveSameAt c.args.self.now c.args.other.now c.args.r) _ _ _ c.all.result
    (λ x b q k. search (rules, tests)) c.all.ensures.ran
