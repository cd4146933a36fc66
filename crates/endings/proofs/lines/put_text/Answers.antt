use Rattle.endings.proofs.Writing.{cut_short}
use Rattle.std.specs.Prelude.{codes}
use Rattle.endings.proofs.lines.put_text.Goals as goal

pub returns-in_err-put : goal.returns-in_err-put
returns-in_err-put g c = cut_short _ _ (codes " ") _ _ _ _ c.in_err-put.was c.from_residual.ensures.0 c.put.ensures.writes
