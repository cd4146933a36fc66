use Rattle.std.proofs.lemmas.Grind.{common_steps}
use Rattle.std.proofs.Common.{arith}
use Rattle.situations.proofs.Firsts.{few_given}
use Rattle.situations.proofs.opening_refusal.given.Goals as goal
use Rattle.situations.proofs.opening_refusal.given.Goals.{in-Some+in_ok-push, in_default}

pub loop-entry-preserved : goal.loop-entry-preserved
loop-entry-preserved c = grind (arith, common_steps)

pub returns-clause-few : goal.returns-clause-few
returns-clause-few c = grind (arith, common_steps, few_given)
