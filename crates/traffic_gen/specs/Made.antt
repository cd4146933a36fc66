-- The traffic of a seed.
use Rattle.std.specs.Prelude.{ℕ, List}
use Rattle.arrivals.specs.declared.aerodrome.Aerodrome.{Aerodrome}
use Rattle.arrivals.specs.declared.flight.Flight.{Flight}
use Rattle.traffic_gen.specs.Sample.{aerodrome_with}
use Rattle.traffic_gen.specs.Flights.{flights_from}

-- an aerodrome and its flights
pub record Made : Type 0 where
  pub aerodrome : Aerodrome
  pub flights : List Flight

-- the traffic of a seed: n flights, numbered from 1, the first behind second 3600, under the bound k on shifts
abbrev pub traffic : ℕ → ℕ → ℕ → Made
traffic seed n k = record { aerodrome = aerodrome_with k; flights = flights_from n 1 3600 seed }
