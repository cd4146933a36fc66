use Rattle.cps_network.proofs.PlacedLemmas.{due_bits}
use Rattle.cps_network.proofs.permit.due_set.Goals as goal

pub returns : goal.returns
returns c = λ rank. due_bits c.args.stage c.args.k rank c.requires.stage c.if-stage-k.false
