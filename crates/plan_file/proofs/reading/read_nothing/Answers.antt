use Rattle.std.proofs.Common.{arith}
use Rattle.plan_file.proofs.Behind.{something_behind}
use Rattle.plan_file.proofs.reading.read_nothing.Goals as goal

pub returns-then-not-is_empty : goal.returns-then-not-is_empty
returns-then-not-is_empty c = grind (arith, something_behind)
