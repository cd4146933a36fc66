use Rattle.std.proofs.Common.{arith}
use Rattle.std.proofs.lemmas.Int.{to_z-of_z}
use Rattle.cps_nodes.proofs.DigitLemmas.{offset_at-offsets_of}
use Rattle.cps_nodes.proofs.window.Window.last.Goals as goal

pub returns-clause-value : goal.returns-clause-value
returns-clause-value g c = grind (arith, to_z-of_z, offset_at-offsets_of)
