-- A text has a byte-order mark if its first three bytes are one.
use Rattle.std.proofs.Common.{arith}
use Rattle.csv_records.proofs.Marks.{unmarked_short, unmarked, marked}
use Rattle.csv_records.proofs.width.without_mark.Goals as goal
use Rattle.csv_records.proofs.width.without_mark.Goals.{then-bytes-lt3-via-then-bytes-lt3}
use Rattle.csv_records.proofs.width.without_mark.Goals.{then-bytes-lt3-via-else-bytes-lt3+then-not-is_mark}

pub returns-then-bytes-lt3 : goal.returns-then-bytes-lt3
returns-then-bytes-lt3 c = grind (arith, unmarked_short, unmarked)

pub returns : goal.returns
returns c = marked c.args.bytes.now c.if-bytes-lt3.false c.if-not-is_mark.ensures
