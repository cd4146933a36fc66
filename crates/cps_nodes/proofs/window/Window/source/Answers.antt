use Rattle.std.proofs.Common.{arith, append-nil, mod-lt, pow_pos}
use Rattle.cps_nodes.proofs.DigitLemmas.{offsets_of-source}
use Rattle.cps_nodes.proofs.WindowLemmas.{IsWindow-source}
use Rattle.cps_nodes.proofs.window.Window.source.Goals as goal

pub invariant_of-result : goal.invariant_of-result
invariant_of-result g c = grind (arith, c.place_value.ensures, offsets_of-source, IsWindow-source, mod-lt, pow_pos)

pub returns-clause-zeros : goal.returns-clause-zeros
returns-clause-zeros g c = grind (arith, c.place_value.ensures, offsets_of-source)

pub returns-clause-empty : goal.returns-clause-empty
returns-clause-empty g c = grind (arith, c.place_value.ensures, offsets_of-source, append-nil)
