-- Delay takes one shift in the first version.
use Rattle.std.proofs.Common.{rules}
use Rattle.arrivals.proofs.shift.most_shift.Goals as goal

pub returns-then-version-eq1 : goal.returns-then-version-eq1
returns-then-version-eq1 c = search rules
