use Rattle.std.proofs.Common.{◌*◌, rules, tests, arith}
use Rattle.cert_check.specs.States.{is_wrong_digit}
use Rattle.cert_check.specs.Seen.{seen}
use Rattle.cert_check.proofs.FoundRanks.{found_in_range}
use Rattle.cert_check.proofs.shape.wrong_digit.Goals as goal

pub returns : goal.returns
returns c = found_in_range (is_wrong_digit c.args.k c.args.n (seen c.args.node.now)) (2 * c.args.k) _ _ _ _
    (omega arith) c.find.ensures.ran (λ x b q k. search (rules, tests))
