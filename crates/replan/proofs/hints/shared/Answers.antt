use Rattle.std.proofs.lemmas.Grind.{common_steps}
use Rattle.std.proofs.Common.{arith}
use Rattle.replan.proofs.HintLemmas.{one_shared}
use Rattle.replan.proofs.hints.shared.Goals as goal

pub loop-labelled-preserved : goal.loop-labelled-preserved
loop-labelled-preserved g c = grind (arith, common_steps, one_shared)
