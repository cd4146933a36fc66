-- The flights of a file, or the first fault of its first record that has one.
use Rattle.std.specs.Prelude.{ℕ, List, [], ◌∷◌, Bool, codes, bytes_eq, Result, Ok, Err, if◌then◌else◌}
use Rattle.std.specs.List.{list_any}
use Rattle.cps_base.specs.Answers.{fault_as, ◌>>=◌}
use Rattle.cps_base.specs.Limits.{most_flights}
use Rattle.csv_records.specs.Rows.{Fields}
use Rattle.csv_records.specs.Values.{Form, values_of}
use Rattle.csv_records.specs.declared.cause.FileCause.{FileCause}
use Rattle.csv_records.specs.declared.cause.FileCause.TheVariants as file
use Rattle.flight_file.specs.declared.fault.FieldFault.{FieldFault}
use Rattle.flight_file.specs.declared.fault.FieldFault.TheVariants as fault
use Rattle.flight_file.specs.declared.fault.FlightCause.{FlightCause}
use Rattle.flight_file.specs.declared.fault.FlightCause.TheVariants as cause
use Rattle.flight_file.specs.declared.fault.FlightFault.{FlightFault}
use Rattle.arrivals.specs.declared.flight.Flight.{Flight}
use Rattle.flight_file.specs.Fields.{flight_at}

-- the first record
abbrev pub header : Fields
header = codes "callsign" ∷ codes "category" ∷ codes "eta" ∷ codes "weight" ∷ codes "windows" ∷ codes "after" ∷ []

abbrev pub has_callsign : List Flight → List ℕ → Bool
has_callsign flights name = list_any (λ f. bytes_eq f.callsign name) flights

-- a fault of a field
abbrev pub in_field : FieldFault → FlightCause
in_field fault.Callsign = cause.Callsign
in_field fault.Category = cause.Category
in_field (fault.Eta e) = cause.Eta e
in_field (fault.Weight e) = cause.Weight e
in_field (fault.Windows e) = cause.Windows e
in_field (fault.After e) = cause.After e

-- the flight that a record is, behind the flights before it
unfoldable pub flight_in : List Flight → Fields → Result Flight FlightCause
flight_in before r = fault_as in_field (flight_at r 0)
    >>= (λ f. if has_callsign before f.callsign then Err cause.Duplicate else Ok f)

-- a fault that each file of records can have
abbrev pub in_file : FileCause → FlightCause
in_file file.Header = cause.Header
in_file file.FieldCount = cause.FieldCount
in_file file.TooMany = cause.TooMany
in_file file.Memory = cause.Memory

-- the flight file
abbrev pub flights : Form Flight FlightCause FlightFault
flights = record {
  header = header;
  value = flight_in;
  most = most_flights;
  cause = in_file;
  fault = λ n c. record { number = n; cause = c };
}

-- the flights of a file
abbrev pub flights_of : List ℕ → Result (List Flight) FlightFault
flights_of = values_of flights
