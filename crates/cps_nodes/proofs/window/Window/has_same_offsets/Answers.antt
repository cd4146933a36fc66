use Rattle.std.proofs.Common.{arith}
use Rattle.cps_nodes.proofs.DigitLemmas.{pointwise-offsets_of}
use Rattle.cps_nodes.proofs.window.Window.has_same_offsets.Goals as goal

pub returns : goal.returns
returns g c = grind (arith, pointwise-offsets_of, c.self.invariant.few)
