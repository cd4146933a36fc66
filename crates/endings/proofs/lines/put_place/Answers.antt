use Rattle.endings.proofs.Writing.{cut_short}
use Rattle.std.specs.Prelude.{codes}
use Rattle.endings.proofs.lines.put_place.Goals as goal

pub returns-in_err-put_text : goal.returns-in_err-put_text
returns-in_err-put_text g c =
    rw (c.as_bytes.ensures.value, c.format.ensures.text) at
    (cut_short _ _ _ (codes ":") _ _ _ c.in_err-put_text.was c.from_residual.ensures.0 c.put_text.ensures)
