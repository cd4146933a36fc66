-- The first record is read on from the byte at hand, and may have another field.
use Rattle.std.proofs.Common.{◌<◌}
use Rattle.csv_records.proofs.Scans.{IsScanned}
use Rattle.csv_records.proofs.width.record_end.Given as goal

abbrev pub invariant-loop-i : goal.invariant-loop-i
invariant-loop-i l = IsScanned l.text l.place l.ended l.i × (l.ended < l.most)
