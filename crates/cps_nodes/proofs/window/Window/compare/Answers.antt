use Rattle.std.proofs.Common.{arith}
use Rattle.cps_nodes.proofs.DigitLemmas.{window_cmp-offsets_of}
use Rattle.cps_nodes.proofs.window.Window.compare.Goals as goal

pub returns : goal.returns
returns g c = grind (arith, c.order_key.ensures, window_cmp-offsets_of, c.self.invariant.few)
