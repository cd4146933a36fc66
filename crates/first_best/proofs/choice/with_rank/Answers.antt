use Rattle.std.proofs.Common.{arith}
use Rattle.first_best.proofs.NodeLemmas.{set_has}
use Rattle.first_best.proofs.choice.with_rank.Goals as goal

pub returns-clause-placed : goal.returns-clause-placed
returns-clause-placed c = set_has _ _ (omega arith)
