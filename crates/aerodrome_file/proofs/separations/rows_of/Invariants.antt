-- The rows so far stand at their places, and the rest are still to be read.
use Rattle.std.proofs.Common.{◌≡◌, length, take, drop}
use Rattle.wake_table.specs.Letters.{category_count}
use Rattle.toml.specs.View.{table_view}
use Rattle.aerodrome_file.specs.Separations.{rows_of}
use Rattle.aerodrome_file.proofs.Items.{with_front}
use Rattle.aerodrome_file.proofs.separations.rows_of.Given as goal

abbrev pub invariant-loop-i : goal.invariant-loop-i
invariant-loop-i l =
    (length l.rows ≡ category_count)
    × (with_front (take l.i l.rows) (rows_of (drop l.i l.leaders) (table_view l.table))
    ≡ rows_of l.leaders (table_view l.table))
