use Rattle.std.proofs.Common.{ap, sym}
use Rattle.cps_network.proofs.permit.most_shift.Goals as goal

pub returns-clause-k : goal.returns-clause-k
returns-clause-k c = sym (ap (λ p. p.k) c.head.ensures.value)
