-- What `replay` prints over the contents of its three files, and which it refuses.
use Rattle.std.specs.Prelude.{◌≡◌, ◌≤◌, ℕ, ◌+◌, Bool, List, length, map, All, None, Result, Ok, Err}
use Rattle.landing_rules.specs.Events as rules
use Rattle.landing_rules.specs.Events.{State, Answered, Run, IsOpeningState}
use Rattle.cps_base.specs.Limits.{most_events}
use Rattle.landing_rules.specs.Sound.{IsSoundState, IsGoodEvent}
use Rattle.landing_rules.specs.Text.{replay_text}
use Rattle.arrivals.specs.declared.aerodrome.Aerodrome.{Aerodrome}
use Rattle.arrivals.specs.Aerodromes.{IsInRange}
use Rattle.arrivals.specs.declared.flight.Flight.{Flight}
use Rattle.arrivals.specs.Seen.{flight_of, event_of}
use Rattle.arrivals.specs.declared.event.Event.{Event}
use Rattle.event_log.specs.Reading.{events_of}
use Rattle.event_log.specs.declared.fault.LogFault.{LogFault}
use Rattle.sequencer.specs.Opened.{opening_of}
use Rattle.replays.specs.Runs.{ReplayStands, last_state}
use Rattle.replays.specs.declared.stops.Stop.{Stop}
use Rattle.replays.specs.declared.stops.Stop.TheVariants as stop
use Rattle.cps_outside.specs.SinkState.{SinkState}
use Rattle.endings.specs.declared.ending.Answer.{Answer}
use Rattle.endings.specs.declared.ending.Ending.{Ending}
use Rattle.endings.specs.declared.ending.Ending.TheVariants as endings
use Rattle.endings.specs.declared.ending.FilesFault.{FilesFault}
use Rattle.endings.specs.declared.ending.FilesFault.TheVariants as refusal
use Rattle.openings.specs.Follows.{FollowsBy}
use Rattle.endings.specs.Files.{HoldsOfThree}
use Rattle.endings.specs.Refusing.{RefusesThree, Stops, opening_refusal}
use Rattle.openings.specs.Plan.{answer_by, answer_of}

abbrev pub RefusesReplay : List ℕ → List ℕ → List ℕ → FilesFault → Type 0
RefusesReplay = RefusesThree refusal.Events events_of

-- The aerodrome has its numbers in range, the log at most 2,000 events, and the files are taken. They have these
-- events, with their numbers in range, and this opening state, which is sound.
pub record Starts (state : State) (events : List rules.Event) (aerodrome : Aerodrome) (flights : List Flight)
    (log : List Event) : Type 0 where
  pub range : IsInRange aerodrome
  pub few : length log ≤ most_events
  pub taken : opening_refusal aerodrome flights ≡ None
  pub opens : IsOpeningState (opening_of aerodrome) (map flight_of flights) state
  pub sound : IsSoundState state
  pub events_are : events ≡ map event_of log
  pub in_range : All IsGoodEvent events

-- The files read as an aerodrome, flights and a log of which this holds.
abbrev pub IsBegun : List ℕ → List ℕ → List ℕ → State → List rules.Event → Type 0
IsBegun a f e state events = HoldsOfThree events_of a f e (Starts state events)

-- The text is that of a run of the rules over all events of the log, from an opening state of the files.
pub record AdmitsReplay (aerodrome flights log text : List ℕ) (answer : Answer) : Type 0 where
  pub state : State
  pub events : List rules.Event
  pub begun : IsBegun aerodrome flights log state events
  pub answers : List Answered
  pub run : Run state events answers
  pub prints : text ≡ replay_text state answers
  pub answered : answer ≡ answer_of (last_state state answers).plan

-- What stands of a replay or an effort of the files after so many puts, from an opening state of them.
pub record StandsBy (Stands : State → List rules.Event → ℕ → List ℕ → Type 0) (aerodrome flights log : List ℕ)
    (puts : ℕ) (text : List ℕ) : Type 0 where
  pub state : State
  pub events : List rules.Event
  pub begun : IsBegun aerodrome flights log state events
  pub stands : Stands state events puts text

abbrev pub StandsReplay : List ℕ → List ℕ → List ℕ → ℕ → List ℕ → Type 0
StandsReplay = StandsBy ReplayStands

-- how many events a log that reads so has
abbrev pub count_of : Result (List Event) LogFault → ℕ
count_of (Ok log) = length log
count_of (Err fault) = 0

-- the puts of a replay of this log: one of the opening plan, and one of each answer
abbrev pub replay_puts : List ℕ → ℕ
replay_puts log = 1 + count_of (events_of log)

-- what `replay` does, with this ending
abbrev pub FollowsReplay : List ℕ → List ℕ → List ℕ → SinkState → SinkState → Ending → Type 0
FollowsReplay aerodrome flights events =
    FollowsBy (replay_puts events) (AdmitsReplay aerodrome flights events) (StandsReplay aerodrome flights events)
    (RefusesReplay aerodrome flights events)

-- how `replay` may stop before it writes
abbrev pub StopsReplay : List ℕ → List ℕ → List ℕ → Ending → Type 0
StopsReplay aerodrome flights events = Stops (RefusesReplay aerodrome flights events)

-- how the program ends where its replay ended so
abbrev pub ending_of : Result Bool Stop → Ending
ending_of (Ok planned) = endings.Answered (answer_by planned)
ending_of (Err stop.NotWritten) = endings.NotWritten
ending_of (Err stop.NoMemory) = endings.NoMemory
