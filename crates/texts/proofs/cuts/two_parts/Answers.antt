-- Behind a second mark stands a third part.
use Rattle.std.proofs.Common.{arith}
use Rattle.texts.specs.shared.Cuts.{has_part}
use Rattle.texts.proofs.cuts.two_parts.Goals as goal

pub returns-in-Some-clause-none : goal.returns-in-Some-clause-none
returns-in-Some-clause-none c = grind (arith, has_part)
