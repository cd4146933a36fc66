-- The windows of a set are good ones, in order.
use Rattle.std.proofs.Common.{arith}
use Rattle.landing_windows.proofs.GoodWindows.{in_order, good}
use Rattle.landing_windows.proofs.windows.WindowSet.spans.Goals as goal

pub returns-clause-good : goal.returns-clause-good
returns-clause-good c = grind (arith, good)

pub returns-clause-in_order : goal.returns-clause-in_order
returns-clause-in_order c = grind (arith, in_order)
