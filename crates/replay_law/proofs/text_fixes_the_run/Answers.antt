use Rattle.std.proofs.Common.{arith}
use Rattle.replay_law.proofs.Runs.{text_law}
use Rattle.replay_law.proofs.text_fixes_the_run.Goals as goal

pub returns : goal.returns
returns c = grind (arith, text_law)
