use Rattle.std.proofs.Common.{arith}
use Rattle.cps_nodes.proofs.DigitTests.{below_tested}
use Rattle.cps_nodes.proofs.window.Window.is_below.Goals as goal

pub returns : goal.returns
returns g c = grind (arith, below_tested, c.next.invariant.few)
