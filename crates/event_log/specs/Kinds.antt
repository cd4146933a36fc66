-- The kinds of events: which columns each of them uses, from left to right. The others must be empty.
use Rattle.std.specs.Prelude.{ℕ, List, [], ◌∷◌, codes, bytes_eq, Result, Ok, Err, if◌then◌else◌}
use Rattle.cps_base.specs.Answers.{fault_as, ok_map, ◌>>=◌}
use Rattle.csv_records.specs.Rows.{Fields}
use Rattle.arrivals.specs.declared.event.Event.{Event}
use Rattle.arrivals.specs.declared.event.Event.TheVariants.{Revise, Cancel, Add, Close, Reopen, Clock}
use Rattle.arrivals.specs.declared.event.Revision.TheVariants.{Times}
use Rattle.flight_file.specs.Fields.{callsign_at, second_at, windows_at, flight_at}
use Rattle.event_log.specs.declared.fault.Col.TheVariants.{Callsign, Category, Eta, Weight, Windows, After}
use Rattle.event_log.specs.declared.fault.LogCause.{LogCause}
use Rattle.event_log.specs.declared.fault.LogCause.TheVariants.{Kind}
use Rattle.event_log.specs.Columns.{place, in_column, empty_in, span_at}

unfoldable pub estimate_in : Fields → Result Event LogCause
estimate_in r = do
  callsign ← fault_as in_column (callsign_at r (place Callsign))
  no_category ← empty_in (Category ∷ []) r
  eta ← fault_as in_column (second_at r (place Eta))
  no_weight ← empty_in (Weight ∷ []) r
  windows ← fault_as in_column (windows_at r (place Windows))
  no_after ← empty_in (After ∷ []) r
  Ok (Revise callsign (Times eta windows))

unfoldable pub cancel_in : Fields → Result Event LogCause
cancel_in r = do
  callsign ← fault_as in_column (callsign_at r (place Callsign))
  others ← empty_in (Category ∷ Eta ∷ Weight ∷ Windows ∷ After ∷ []) r
  Ok (Cancel callsign)

unfoldable pub add_in : Fields → Result Event LogCause
add_in r = ok_map Add (fault_as in_column (flight_at r (place Callsign)))

-- the span of a closure that is new, or is lifted
unfoldable pub closed_in : Fields → Result (ℕ × ℕ) LogCause
closed_in r = do
  before ← empty_in (Callsign ∷ Category ∷ Eta ∷ Weight ∷ []) r
  span ← span_at r
  no_after ← empty_in (After ∷ []) r
  Ok span

unfoldable pub clock_in : Fields → Result Event LogCause
clock_in r = do
  before ← empty_in (Callsign ∷ Category ∷ []) r
  now ← fault_as in_column (second_at r (place Eta))
  behind ← empty_in (Weight ∷ Windows ∷ After ∷ []) r
  Ok (Clock now)

-- the event of the kind that a text names
unfoldable pub event_by : List ℕ → Fields → Result Event LogCause
event_by kind r =
    if bytes_eq kind (codes "estimate") then estimate_in r
    else if bytes_eq kind (codes "cancel") then cancel_in r
    else if bytes_eq kind (codes "add") then add_in r
    else if bytes_eq kind (codes "close") then ok_map (λ span. Close span.0 span.1) (closed_in r)
    else if bytes_eq kind (codes "reopen") then ok_map (λ span. Reopen span.0 span.1) (closed_in r)
    else if bytes_eq kind (codes "clock") then clock_in r
    else Err Kind
