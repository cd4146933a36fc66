use Rattle.std.proofs.Common.{arith}
use Rattle.std.proofs.lemmas.Grind.{common_steps}
use Rattle.replan.proofs.kept.all_stages.Goals as goal

pub fill_stages-requires : goal.fill_stages-requires
fill_stages-requires g c = grind (arith, common_steps)
