-- What holds of files as they read: as an aerodrome, flights, and what a third file is.
use Rattle.std.specs.Prelude.{◌≡◌, ℕ, List, Result, Ok}
use Rattle.arrivals.specs.declared.aerodrome.Aerodrome.{Aerodrome}
use Rattle.aerodrome_file.specs.Reading.{aerodrome_of}
use Rattle.arrivals.specs.declared.flight.Flight.{Flight}
use Rattle.flight_file.specs.Reading.{flights_of}

-- The bytes read as an aerodrome and flights, of which this holds.
pub record HoldsOfTwo (aerodrome_bytes flight_bytes : List ℕ) (Holds : Aerodrome → List Flight → Type 0) : Type 0 where
  pub aerodrome : Aerodrome
  pub flights : List Flight
  pub aerodrome_read : aerodrome_of aerodrome_bytes ≡ Ok aerodrome
  pub flights_read : flights_of flight_bytes ≡ Ok flights
  pub holds : Holds aerodrome flights

-- The same with the bytes of a third file, by how it reads.
pub record HoldsOfThree {T F : Type 0} (read : List ℕ → Result T F) (aerodrome_bytes flight_bytes third_bytes : List ℕ)
    (Holds : Aerodrome → List Flight → T → Type 0) : Type 0 where
  pub aerodrome : Aerodrome
  pub flights : List Flight
  pub third : T
  pub aerodrome_read : aerodrome_of aerodrome_bytes ≡ Ok aerodrome
  pub flights_read : flights_of flight_bytes ≡ Ok flights
  pub third_read : read third_bytes ≡ Ok third
  pub holds : Holds aerodrome flights third
