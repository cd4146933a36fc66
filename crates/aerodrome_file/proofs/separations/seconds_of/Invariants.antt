-- The entries so far stand at their places, and the rest is still to be read.
use Rattle.std.proofs.Common.{◌≡◌, length, take, drop}
use Rattle.wake_table.specs.Letters.{category_count}
use Rattle.toml.specs.View.{items_view}
use Rattle.aerodrome_file.specs.Separations.{seconds_of}
use Rattle.aerodrome_file.proofs.Items.{with_front}
use Rattle.aerodrome_file.proofs.separations.seconds_of.Given as goal

abbrev pub invariant-loop-i : goal.invariant-loop-i
invariant-loop-i l =
    (length l.row ≡ category_count)
    × (with_front (take l.i l.row) (seconds_of l.leader (items_view (drop l.i l.values)))
    ≡ seconds_of l.leader (items_view l.values))
