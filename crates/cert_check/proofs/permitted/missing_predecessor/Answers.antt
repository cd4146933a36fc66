use Rattle.std.proofs.Common.{rules, tests, arith}
use Rattle.cps_theory.specs.CertificateClosure.{is_missing_predecessor}
use Rattle.cert_check.specs.Landings.{count}
use Rattle.cert_check.specs.States.{rules_of}
use Rattle.cert_check.specs.Seen.{seen}
use Rattle.cert_check.proofs.FoundRanks.{found_in_range}
use Rattle.cert_check.proofs.permitted.missing_predecessor.Goals as goal

pub returns : goal.returns
returns c = found_in_range (is_missing_predecessor (rules_of c.args.problem.now) (seen c.args.node.now) c.args.rank)
    (count c.args.problem.now) _ _ _ _ (omega arith) c.find.ensures.ran (λ x b q k. search (rules, tests))
