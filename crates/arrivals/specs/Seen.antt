-- A flight of the file and an event of the log, as the rules see them.
use Rattle.landing_rules.specs.Flights as flights
use Rattle.landing_rules.specs.Events as rules
use Rattle.landing_rules.specs.Sound.{IsGoodEvent}
use Rattle.arrivals.specs.declared.flight.Flight.{Flight}
use Rattle.arrivals.specs.declared.event.Event.{Event}
use Rattle.arrivals.specs.declared.event.Event.TheVariants.{Revise, Cancel, Add, Close, Reopen, Clock}
use Rattle.arrivals.specs.declared.event.Revision.{Revision}
use Rattle.arrivals.specs.declared.event.Revision.TheVariants.{Times}

abbrev pub flight_of : Flight → flights.Flight
flight_of f = record {
  callsign = f.callsign;
  category = f.category;
  eta = f.eta;
  weight =
      f.weight;
  windows = f.windows;
  after = f.after;
}

abbrev pub revision_of : Revision → rules.Revision
revision_of (Times eta windows) = rules.Times eta windows

abbrev pub event_of : Event → rules.Event
event_of (Revise callsign revision) = rules.Revise callsign (revision_of revision)
event_of (Cancel callsign) = rules.Cancel callsign
event_of (Add flight) = rules.Add (flight_of flight)
event_of (Close from to) = rules.Close (from, to)
event_of (Reopen from to) = rules.Reopen (from, to)
event_of (Clock now) = rules.Clock now

-- each number of the event is in its range
abbrev pub IsGood : Event → Type 0
IsGood e = IsGoodEvent (event_of e)
