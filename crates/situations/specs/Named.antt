-- A change of the flight that has a callsign, and of each flight by a list of callsigns.
use Rattle.std.specs.Prelude.{ℕ, Option, Some, None, if◌then◌else◌}
use Rattle.landing_rules.specs.Flights.{Active, Callsign}
use Rattle.landing_rules.specs.Events.{named}

-- the flight of the callsign, frozen at this second, or waiting
abbrev pub frozen_so : Callsign → Option ℕ → Active → Active
frozen_so c second a = if named c a then record a { frozen = second } else a

-- the flight of the callsign, which so many have passed
abbrev pub counted : Callsign → ℕ → Active → Active
counted c count a = if named c a then record a { passed = count } else a

-- ---- where a list gives a number for the flight's callsign

-- frozen at that second
abbrev pub with_second : Option ℕ → Active → Active
with_second None a = a
with_second (Some second) a = record a { frozen = Some second }

-- so many have passed it
abbrev pub with_count : Option ℕ → Active → Active
with_count None a = a
with_count (Some count) a = record a { passed = count }
