use Rattle.std.proofs.Common.{rules, tests, ◌≡◌}
use Rattle.precedence.specs.Pairs.{must_precede}
use Rattle.cps_theory.specs.laws.Ranges.{all_in_range}
use Rattle.cps_problem.proofs.problem.Problem.has_same_below.Goals as goal

pub returns : goal.returns
returns c = all_in_range (λ i. must_precede c.args.self.now.pairs i c.args.j ≡ must_precede
    c.args.other.now.pairs i c.args.j) _ _ _ c.all.result (λ x b q k. search (rules, tests)) c.all.ensures.ran
