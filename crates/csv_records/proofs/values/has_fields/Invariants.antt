-- The fields that are left to compare decide.
use Rattle.std.proofs.Common.{◌≡◌, ◌+◌, length, drop, map}
use Rattle.csv.specs.Records.{fields_of}
use Rattle.csv_records.specs.Values.{same_fields}
use Rattle.csv_records.proofs.values.has_fields.Given as goal

abbrev pub invariant-loop-rest : goal.invariant-loop-rest
invariant-loop-rest l =
    (same_fields (map (λ t. t.now) l.rest) (drop l.i (fields_of l.row))
    ≡ same_fields (map (λ t. t.now) l.fn.fields) (fields_of l.row))
    × (l.i + length l.rest ≡ length (fields_of l.row))

abbrev pub decreases-loop-rest : goal.decreases-loop-rest
decreases-loop-rest l = length l.rest
