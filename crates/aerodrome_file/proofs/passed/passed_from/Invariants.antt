-- The entries so far, and those of the tables that are left behind them, are those of all.
use Rattle.std.proofs.Common.{◌≡◌, ◌+◌, ◌≤◌, [], length}
use Rattle.cps_base.specs.Limits.{most_waiting}
use Rattle.toml.specs.View.{items_view}
use Rattle.aerodrome_file.specs.Tables.{tables_of}
use Rattle.arrivals.specs.Aerodromes.{ArePassed}
use Rattle.aerodrome_file.specs.Passed.{passed_from}
use Rattle.aerodrome_file.proofs.passed.passed_from.Given as goal

abbrev pub invariant-loop-rest : goal.invariant-loop-rest
invariant-loop-rest l =
    (passed_from l.number l.k l.entries.items (tables_of (items_view l.rest)) ≡ passed_from 1 l.k [] (tables_of (items_view l.fn.values)))
    × (l.number + length l.rest ≤ most_waiting + 1) × (length l.entries.items + length l.rest ≤ most_waiting)
    × ArePassed l.k l.entries.items

abbrev pub decreases-loop-rest : goal.decreases-loop-rest
decreases-loop-rest l = length l.rest
