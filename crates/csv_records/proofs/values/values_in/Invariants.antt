-- The records that are left, behind the values so far, give what all of them give.
use Rattle.std.proofs.Common.{◌≡◌, ◌≤◌, [], length, vec_len}
use Rattle.csv_records.specs.Values.{values_in}
use Rattle.csv_records.proofs.values.values_in.Given as goal

abbrev pub invariant-loop-values : goal.invariant-loop-values
invariant-loop-values g l =
    (values_in g.F.Format.form l.values.items l.records ≡ values_in g.F.Format.form [] l.fn.records)
    × (vec_len l.values ≤ g.F.Format.form.most) × g.F.Format.holds l.values.items

abbrev pub decreases-loop-values : goal.decreases-loop-values
decreases-loop-values g l = length l.records
