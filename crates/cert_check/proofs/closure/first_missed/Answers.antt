use Rattle.std.proofs.Common.{rules, tests, arith}
use Rattle.cert_check.specs.Landings.{count}
use Rattle.cert_check.specs.States.{misses}
use Rattle.cert_check.specs.Seen.{seen}
use Rattle.cps_theory.specs.CertificateClosure.{first_missed}
use Rattle.cert_check.proofs.FoundRanks.{found_in_range}
use Rattle.cert_check.proofs.closure.first_missed.Goals as goal

pub returns : goal.returns
unfolding first_missed
returns c = found_in_range (misses c.args.problem.now c.args.states.now (seen c.args.node.now) c.args.pairs.now)
    (count c.args.problem.now) _ _ _ _ (omega arith) c.find.ensures.ran (λ x b q k. search (rules, tests))
