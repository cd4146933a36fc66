use Rattle.std.proofs.Common.{rules, tests, arith}
use Rattle.cert_check.specs.Landings.{count, are_out_of_order}
use Rattle.cert_check.proofs.FoundRanks.{found_in_range}
use Rattle.cert_check.proofs.landed.first_out_of_order.Goals as goal

pub returns : goal.returns
returns c = found_in_range (are_out_of_order c.args.problem.now c.args.landings.now c.args.rank)
    (count c.args.problem.now) _ _ _ _ (omega arith) c.find.ensures.ran (λ x b q k. search (rules, tests))
