-- The entries so far, and those of the tables that are left behind them, are those of all.
use Rattle.std.proofs.Common.{◌≡◌, ◌+◌, ◌≤◌, [], length}
use Rattle.cps_base.specs.Limits.{most_flights}
use Rattle.toml.specs.View.{items_view}
use Rattle.aerodrome_file.specs.Tables.{tables_of}
use Rattle.arrivals.specs.Aerodromes.{AreFrozen}
use Rattle.aerodrome_file.specs.Frozen.{frozen_from}
use Rattle.aerodrome_file.proofs.frozen.frozen_from.Given as goal

abbrev pub invariant-loop-rest : goal.invariant-loop-rest
invariant-loop-rest l =
    (frozen_from l.number l.clock l.freeze l.entries.items (tables_of (items_view l.rest)) ≡ frozen_from 1 l.clock l.freeze []
    (tables_of (items_view l.fn.values)))
    × (l.number + length l.rest ≤ most_flights + 1) × (length l.entries.items + length l.rest ≤ most_flights)
    × AreFrozen l.clock l.freeze l.entries.items

abbrev pub decreases-loop-rest : goal.decreases-loop-rest
decreases-loop-rest l = length l.rest
