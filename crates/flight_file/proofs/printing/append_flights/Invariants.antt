-- What stands so far and what is to come are the text; what the types of the flights that are left keep, all keep.
use Rattle.std.proofs.Common.{◌≡◌, ◌++◌, length}
use Rattle.std.specs.Prelude.{map}
use Rattle.csv_records.specs.Plain.{plain_text}
use Rattle.flight_file.specs.Printed.{flight_fields, flights_text}
use Rattle.flight_file.specs.Kept.{AreKept}
use Rattle.flight_file.proofs.printing.append_flights.Given as goal

abbrev pub invariant-loop-rest : goal.invariant-loop-rest
invariant-loop-rest l =
    (l.into.items ++ plain_text (map flight_fields l.rest) ≡ l.fn.into.items ++ flights_text l.fn.flights)
    × (AreKept l.rest → AreKept l.fn.flights)

abbrev pub decreases-loop-rest : goal.decreases-loop-rest
decreases-loop-rest l = length l.rest
