-- The opening situation of an aerodrome and its flights, and what is asked of them.
use Rattle.std.specs.Prelude.{◌≢◌, ◌≤◌, ℕ, List, length, map, All, AllPairs, IsTrue}
use Rattle.cps_base.specs.Text.{is_callsign}
use Rattle.landing_rules.specs.Flights.{Active, Aerodrome, Callsign, Flight, Situation}
use Rattle.cps_base.specs.Limits.{greatest_weight, most_flights, most_predecessors}
use Rattle.landing_rules.specs.Rules.{last_second}
use Rattle.landing_rules.specs.Sound.{AreGoodWindows}
use Rattle.landing_rules.specs.Events.{Opening, newcomer, opening_situation}
use Rattle.arrivals.specs.declared.aerodrome.Aerodrome as aerodromes
use Rattle.arrivals.specs.Aerodromes.{IsInRange}
use Rattle.arrivals.specs.declared.frozen_list.FrozenLanding.{FrozenLanding}
use Rattle.arrivals.specs.declared.passed_list.PassedCount.{PassedCount}
use Rattle.arrivals.specs.declared.flight.Flight as files
use Rattle.arrivals.specs.Seen.{flight_of}

-- an aerodrome of the files, as the rules see it
abbrev pub aerodrome_of : aerodromes.Aerodrome → Aerodrome
aerodrome_of a = record { k = a.k; freeze = a.freeze; objective = a.objective; table = a.table; carry = a.carry }

-- what the entries of `frozen` say, by callsign
abbrev pub seconds_in : List FrozenLanding → List (Callsign × ℕ)
seconds_in entries = map (λ f. (f.callsign, f.second)) entries

-- what the entries of `passed` say, by callsign
abbrev pub counts_in : List PassedCount → List (Callsign × ℕ)
counts_in entries = map (λ p. (p.callsign, p.count)) entries

-- what the file says of the day so far: the clock, the frozen landings, and how many flights passed each
abbrev pub opening_of : aerodromes.Aerodrome → Opening
opening_of a = record {
  aerodrome = aerodrome_of a;
  closures = a.closures;
  clock = a.clock;
  frozen = seconds_in a.frozen;
  passed = counts_in a.passed;
}

-- the opening situation: the flights in the order of their file
abbrev pub opened : aerodromes.Aerodrome → List files.Flight → Situation
opened a fs = opening_situation (opening_of a) (map flight_of fs)

-- what the types of a flight's fields keep
pub record IsKept (f : Flight) : Type 0 where
  pub callsign : IsTrue (is_callsign f.callsign)
  pub windows : AreGoodWindows f.windows
  pub after : length f.after ≤ most_predecessors

pub record HasRanges (f : files.Flight) : Type 0 where
  pub eta : f.eta ≤ last_second
  pub weight : (1 ≤ f.weight) × (f.weight ≤ greatest_weight)

-- at most 500 flights, with callsigns apart, and all numbers in their ranges
pub record CanOpen (a : aerodromes.Aerodrome) (fs : List files.Flight) : Type 0 where
  pub aerodrome : IsInRange a
  pub few : length fs ≤ most_flights
  pub flights : All HasRanges fs
  pub callsigns : AllPairs (λ f later. f.callsign ≢ later.callsign) fs

-- each flight under its callsign, waiting and with a count of 0
abbrev pub newcomers : List files.Flight → List (Callsign × Active)
newcomers fs = map (λ f. (f.callsign, newcomer (flight_of f))) fs
