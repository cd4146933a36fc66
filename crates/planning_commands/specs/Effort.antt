-- What `effort` prints over the contents of its three files. It refuses those that `replay` refuses.
use Rattle.std.specs.Prelude.{◌≡◌, ℕ, ◌+◌, List}
use Rattle.landing_rules.specs.Events as rules
use Rattle.landing_rules.specs.Events.{State}
use Rattle.replays.specs.Efforts.{Effort, answers_of, effort_text}
use Rattle.replays.specs.Ends.{EffortStands}
use Rattle.replays.specs.Runs.{last_state}
use Rattle.cps_outside.specs.SinkState.{SinkState}
use Rattle.endings.specs.declared.ending.Answer.{Answer}
use Rattle.endings.specs.declared.ending.Ending.{Ending}
use Rattle.event_log.specs.Reading.{events_of}
use Rattle.openings.specs.Follows.{FollowsBy}
use Rattle.openings.specs.Plan.{answer_of}
use Rattle.planning_commands.specs.Replay.{IsBegun, RefusesReplay, StandsBy, count_of}

-- The text tells the steps of the plannings of a run of the rules over all events of the log, from an opening state of
-- the files.
pub record AdmitsEffort (aerodrome flights log text : List ℕ) (answer : Answer) : Type 0 where
  pub state : State
  pub events : List rules.Event
  pub begun : IsBegun aerodrome flights log state events
  pub effort : Effort state events
  pub prints : text ≡ effort_text effort
  pub answered : answer ≡ answer_of (last_state state (answers_of effort.plannings.planned)).plan

abbrev pub StandsEffort : List ℕ → List ℕ → List ℕ → ℕ → List ℕ → Type 0
StandsEffort = StandsBy EffortStands

-- the puts of an effort over this log: one of the opening's line, one of each event's, and one of the last
abbrev pub effort_puts : List ℕ → ℕ
effort_puts log = 2 + count_of (events_of log)

-- what `effort` does, with this ending
abbrev pub FollowsEffort : List ℕ → List ℕ → List ℕ → SinkState → SinkState → Ending → Type 0
FollowsEffort aerodrome flights events =
    FollowsBy (effort_puts events) (AdmitsEffort aerodrome flights events) (StandsEffort aerodrome flights events)
    (RefusesReplay aerodrome flights events)
