-- What a closure may be, and the answer to one that is added.
use Rattle.std.specs.Prelude.{ℕ, ◌+◌, ◌<◌, ◌≤◌, List, nat_le, length, Result, Ok, Err, if◌then◌else◌}
use Rattle.landing_rules.specs.Flights.{Span}
use Rattle.cps_base.specs.Limits.{most_closures}
use Rattle.landing_rules.specs.Rules.{last_second}
use Rattle.landing_windows.specs.declared.closures.ClosureFault.{ClosureFault}
use Rattle.landing_windows.specs.declared.closures.ClosureFault.TheVariants.{Empty, TooMany}

-- it holds a second, and ends at the end of the two days or before
abbrev pub IsClosure : Span → Type 0
IsClosure c = (c.0 < c.1) × (c.1 ≤ last_second + 1)

-- why a closure is not added to others: it is empty, else as many as may stand do
abbrev pub adding : List Span → ℕ → ℕ → Result (Unit {0}) ClosureFault
adding pairs from to = if nat_le to from then Err Empty else if nat_le most_closures (length pairs)
    then Err TooMany else Ok tt
