-- A text of UTF-8 is valid to its end.
use Rattle.std.proofs.Common.{arith}
use Rattle.std.proofs.lemmas.Grind.{common_steps}
use Rattle.std.proofs.lemmas.Str.{utf8_valid_len-IsUtf8}
use Rattle.aerodrome_file.specs.Reading.{document}
use Rattle.aerodrome_file.proofs.reading.document.Goals as goal

pub returns-in-Ok-table_from_str : goal.returns-in-Ok-table_from_str
unfolding document
returns-in-Ok-table_from_str c =
    let whole = utf8_valid_len-IsUtf8 c.args.bytes.now c.in-Ok.ensures.cases.1 in
    rw (whole, ← c.in-Ok.ensures.cases.0) (grind (arith, common_steps, c.in-Ok-table_from_str.ensures.ok))
