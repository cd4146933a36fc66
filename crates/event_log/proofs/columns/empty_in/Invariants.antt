-- The columns that are left to look at decide.
use Rattle.std.proofs.Common.{◌≡◌, length}
use Rattle.csv.specs.Records.{fields_of}
use Rattle.event_log.specs.Columns.{empty_in}
use Rattle.event_log.proofs.columns.empty_in.Given as goal

abbrev pub invariant-loop-rest : goal.invariant-loop-rest
invariant-loop-rest l = empty_in l.rest (fields_of l.row) ≡ empty_in l.fn.cols (fields_of l.row)

abbrev pub decreases-loop-rest : goal.decreases-loop-rest
decreases-loop-rest l = length l.rest
