-- The events of a log, or the first fault of its first record that has one.
use Rattle.std.specs.Prelude.{ℕ, List, ◌∷◌, codes, Result}
use Rattle.cps_base.specs.Limits.{most_events}
use Rattle.csv_records.specs.Rows.{field}
use Rattle.csv_records.specs.Values.{Form, values_of}
use Rattle.csv_records.specs.declared.cause.FileCause.{FileCause}
use Rattle.csv_records.specs.declared.cause.FileCause.TheVariants as file
use Rattle.arrivals.specs.declared.event.Event.{Event}
use Rattle.flight_file.specs.Reading as flight_file
use Rattle.event_log.specs.declared.fault.LogCause.{LogCause}
use Rattle.event_log.specs.declared.fault.LogCause.TheVariants as cause
use Rattle.event_log.specs.declared.fault.LogFault.{LogFault}
use Rattle.event_log.specs.Kinds.{event_by}

-- a fault that each file of records can have
abbrev pub in_file : FileCause → LogCause
in_file file.Header = cause.Header
in_file file.FieldCount = cause.FieldCount
in_file file.TooMany = cause.TooMany
in_file file.Memory = cause.Memory

-- the event log: the columns of a flight stand behind the kind
abbrev pub events : Form Event LogCause LogFault
events = record {
  header = codes "kind" ∷ flight_file.header;
  value = λ before r. event_by (field r 0) r;
  most = most_events;
  cause = in_file;
  fault = λ n c. record { number = n; cause = c };
}

-- the events of a log
abbrev pub events_of : List ℕ → Result (List Event) LogFault
events_of = values_of events
