-- The closures so far and those of the tables that are left are the closures of all.
use Rattle.std.proofs.Common.{◌≡◌, ◌+◌, ◌≤◌, length}
use Rattle.cps_base.specs.Limits.{most_closures}
use Rattle.toml.specs.View.{items_view}
use Rattle.aerodrome_file.specs.Tables.{tables_of}
use Rattle.aerodrome_file.specs.Closures.{closures_from}
use Rattle.aerodrome_file.proofs.Items.{with_front}
use Rattle.aerodrome_file.proofs.closures.closures_from.Given as goal

abbrev pub invariant-loop-rest : goal.invariant-loop-rest
invariant-loop-rest l =
    (with_front l.closures (closures_from l.number (tables_of (items_view l.rest))) ≡ closures_from 1 (tables_of (items_view l.values)))
    × (l.number + length l.rest ≤ most_closures + 1) × (length l.closures + length l.rest ≤ most_closures)

abbrev pub decreases-loop-rest : goal.decreases-loop-rest
decreases-loop-rest l = length l.rest
