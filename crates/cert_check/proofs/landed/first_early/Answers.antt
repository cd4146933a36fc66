use Rattle.std.proofs.Common.{rules, tests, arith}
use Rattle.cert_check.specs.Landings.{count, is_early}
use Rattle.cert_check.proofs.FoundRanks.{found_in_range}
use Rattle.cert_check.proofs.landed.first_early.Goals as goal

pub returns : goal.returns
returns c = found_in_range (is_early c.args.problem.now c.args.landings.now) (count c.args.problem.now) _ _ _ _
    (omega arith) c.find.ensures.ran (λ x b q k. search (rules, tests))
