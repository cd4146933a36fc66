use Rattle.std.proofs.Common.{rules, tests, arith}
use Rattle.cert_check.specs.Landings.{count, first_too_close}
use Rattle.cert_check.proofs.FoundRanks.{pair_in_range}
use Rattle.cert_check.proofs.landed.first_close_pair.Goals as goal

pub returns : goal.returns
returns c = pair_in_range (first_too_close c.args.problem.now c.args.landings.now) (count c.args.problem.now) _ _ _
    (omega arith) c.find_map.ensures.runs (λ x b q k. search (rules, tests))
