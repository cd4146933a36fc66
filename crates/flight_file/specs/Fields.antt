-- The six fields of a flight, each by its place in a record, or the first that is none.
use Rattle.std.specs.Prelude.{ℕ, ◌+◌, List, Option, Some, None, Result, Ok, Err, if◌then◌else◌}
use Rattle.cps_base.specs.Answers.{fault_as, ◌>>=◌}
use Rattle.cps_base.specs.Limits.{greatest_weight}
use Rattle.cps_base.specs.Number.{number_within}
use Rattle.cps_base.specs.Text.{is_callsign}
use Rattle.landing_rules.specs.Rules.{last_second}
use Rattle.wake_table.specs.declared.category.Category.{Category}
use Rattle.wake_table.specs.Letters.{category_of}
use Rattle.csv_records.specs.Rows.{Fields, field}
use Rattle.arrivals.specs.declared.flight.Flight.{Flight}
use Rattle.flight_file.specs.declared.fault.FieldFault.{FieldFault}
use Rattle.flight_file.specs.declared.fault.FieldFault.TheVariants as fault
use Rattle.flight_file.specs.Windows.{windows_in}
use Rattle.flight_file.specs.After.{names_in}

abbrev pub category_or : Option Category → Result Category FieldFault
category_or (Some c) = Ok c
category_or None = Err fault.Category

abbrev pub callsign_at : Fields → ℕ → Result (List ℕ) FieldFault
callsign_at r i = if is_callsign (field r i) then Ok (field r i) else Err fault.Callsign

abbrev pub category_at : Fields → ℕ → Result Category FieldFault
category_at r i = category_or (category_of (field r i))

-- a second of the two days
abbrev pub second_at : Fields → ℕ → Result ℕ FieldFault
second_at r i = fault_as fault.Eta (number_within (field r i) 0 last_second)

abbrev pub weight_at : Fields → ℕ → Result ℕ FieldFault
weight_at r i = fault_as fault.Weight (number_within (field r i) 1 greatest_weight)

abbrev pub windows_at : Fields → ℕ → Result (List (ℕ × ℕ)) FieldFault
windows_at r i = fault_as fault.Windows (windows_in (field r i))

-- the predecessors of the flight with this callsign
abbrev pub names_at : List ℕ → Fields → ℕ → Result (List (List ℕ)) FieldFault
names_at own r i = fault_as fault.After (names_in own (field r i))

-- the flight that six fields are, from field i on
unfoldable pub flight_at : Fields → ℕ → Result Flight FieldFault
flight_at r i = do
  callsign ← callsign_at r i
  category ← category_at r (i + 1)
  eta ← second_at r (i + 2)
  weight ← weight_at r (i + 3)
  windows ← windows_at r (i + 4)
  after ← names_at callsign r (i + 5)
  Ok (record {
    callsign = callsign;
    category = category;
    eta = eta;
    weight = weight;
    windows =
        windows;
    after = after;
  })
