use Rattle.std.proofs.Common.{arith, rules, tests}
use Rattle.std.specs.Prelude.{IsTrue}
use Rattle.precedence.specs.Pairs.{must_precede}
use Rattle.cps_theory.specs.laws.Ranges.{any_in_range}
use Rattle.cps_problem.proofs.problem.Problem.has_predecessor_from.Goals as goal

pub returns : goal.returns
returns c =
    let any = any_in_range (λ i. IsTrue (must_precede c.args.self.now.pairs i c.args.j)) _ _ _ c.any.result
    (λ x b q k. search (rules, tests)) c.any.ensures.ran in
    grind arith
