use Rattle.std.proofs.Common.{rules}
use Rattle.first_best.proofs.budget.limit_of.Goals as goal

pub returns-in-Some : goal.returns-in-Some
returns-in-Some c = search rules
