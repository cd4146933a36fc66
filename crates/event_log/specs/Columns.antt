-- What the columns of a record hold, or the fault of a column.
use Rattle.std.specs.Prelude.{ℕ, List, [], ◌∷◌, ◌==◌, length, Result, Ok, Err, if◌then◌else◌}
use Rattle.cps_base.specs.Answers.{fault_as}
use Rattle.csv_records.specs.Rows.{Fields, field}
use Rattle.flight_file.specs.declared.fault.FieldFault.{FieldFault}
use Rattle.flight_file.specs.declared.fault.FieldFault.TheVariants as flight
use Rattle.event_log.specs.declared.fault.Col.{Col}
use Rattle.event_log.specs.declared.fault.Col.TheVariants.{Callsign, Category, Eta, Weight, Windows, After}
use Rattle.event_log.specs.declared.fault.FieldCause.TheVariants as fault
use Rattle.event_log.specs.declared.fault.LogCause.{LogCause}
use Rattle.event_log.specs.declared.fault.LogCause.TheVariants.{Field}
use Rattle.event_log.specs.Spans.{span_in}

-- the columns stand behind the kind, in the order of the header
abbrev pub place : Col → ℕ
place Callsign = 1
place Category = 2
place Eta = 3
place Weight = 4
place Windows = 5
place After = 6

-- a fault of a flight's field, in its column
abbrev pub in_column : FieldFault → LogCause
in_column flight.Callsign = Field Callsign fault.Bad
in_column flight.Category = Field Category fault.Bad
in_column (flight.Eta e) = Field Eta (fault.Number e)
in_column (flight.Weight e) = Field Weight (fault.Number e)
in_column (flight.Windows e) = Field Windows (fault.Windows e)
in_column (flight.After e) = Field After (fault.After e)

-- these columns, from left to right, must be empty
unfoldable pub empty_in : List Col → Fields → Result (Unit {0}) LogCause
empty_in [] r = Ok tt
empty_in (c ∷ cs) r = if length (field r (place c)) == 0 then empty_in cs r else Err (Field c fault.NotEmpty)

-- a span stands in the column of the windows
abbrev pub span_at : Fields → Result (ℕ × ℕ) LogCause
span_at r = fault_as (λ e. Field Windows e) (span_in (field r (place Windows)))
