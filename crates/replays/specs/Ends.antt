-- What writing an effort leaves.
use Rattle.std.specs.Prelude.{◌≡◌, ◌⊎◌, ℕ, ◌+◌, ◌*◌, ◌≤◌, List, [], ◌++◌, Bool, Option, length, is_some, Result, Ok}
use Rattle.std.specs.Prelude.{Err}
use Rattle.cps_outside.specs.Puts.{Wrote, WrotePart, BreaksOff, StopsShort}
use Rattle.cps_outside.specs.SinkState.{SinkState}
use Rattle.landing_rules.specs.Events.{State, Event, Refusal, Step}
use Rattle.landing_rules.specs.Problem.{IsProblemOf}
use Rattle.landing_rules.specs.Text.{Bytes}
use Rattle.replan.specs.Kept.{Holds}
use Rattle.replan.specs.declared.any_kept.AnyKept.{AnyKept}
use Rattle.replays.specs.Runs.{last_state}
use Rattle.replays.specs.declared.stops.Stop.{Stop}
use Rattle.replays.specs.declared.stops.Stop.TheVariants as stop
use Rattle.sequencer.specs.Standing.{Standing}
use Rattle.replan.specs.Bound.{most_steps}
use Rattle.replays.specs.Efforts.{TakesSteps, Plannings, Effort, answers_of, steps_of, answer_line, answer_lines}
use Rattle.replays.specs.Efforts.{effort_lines, effort_text}

-- one event: its step by the rules, and its planning
pub record Plans (old new : Standing AnyKept) (e : Event) (answer : Option Refusal) (steps : ℕ) : Type 0 where
  pub step : Step old.state e answer new.state
  pub problem_of : IsProblemOf new.state.situation new.problem
  pub takes : TakesSteps old.problem answer new.problem steps
  pub few : steps ≤ most_steps
  pub held : Holds new.planner new.problem

-- and its line
pub record PlansWith (old new : Standing AnyKept) (i : ℕ) (e : Event) (steps : ℕ) (P : Bytes → Type 0) : Type 0 where
  pub answer : Option Refusal
  pub plans : Plans old new e answer steps
  pub written : P (answer_line i answer steps)

-- its line is one put; where memory runs out it is not begun
abbrev pub StepPlans : Standing AnyKept → Standing AnyKept → ℕ → Event → SinkState → SinkState → Result ℕ Stop → Type 0
StepPlans old new i e from to (Ok steps) = PlansWith old new i e steps (Wrote 1 from to)
StepPlans old new i e from to (Err stop.NotWritten) = (steps : ℕ) × PlansWith old new i e steps (WrotePart 0 from to [])
StepPlans old new i e from to (Err stop.NoMemory) = to ≡ from

-- the plannings of all events, with the lines of their answers and so many steps together
pub record AllPlan (old new : Standing AnyKept) (events : List Event) (total : ℕ) (from to : SinkState) : Type 0 where
  pub plannings : Plannings old.problem old.state events
  pub last : new.state ≡ last_state old.state (answers_of plannings.planned)
  pub total_is : total ≡ steps_of plannings.planned
  pub few : total ≤ length events * most_steps
  pub written : Wrote (length events) from to (answer_lines 1 plannings.planned)

-- what stands of their lines after so many puts: those of the first of these events
pub record LinesStand (old : Standing AnyKept) (events : List Event) (puts : ℕ) (text : Bytes) : Type 0 where
  pub done : List Event
  pub rest : List Event
  pub split : done ++ rest ≡ events
  pub count : puts ≡ length done
  pub plannings : Plannings old.problem old.state done
  pub prints : text ≡ answer_lines 1 plannings.planned

-- each line is one put
abbrev pub EventsPlan : Standing AnyKept → Standing AnyKept → List Event → SinkState → SinkState
    → Result ℕ Stop → Type 0
EventsPlan old new events from to (Ok total) = AllPlan old new events total from to
EventsPlan old new events from to (Err stop.NotWritten) = BreaksOff (LinesStand old events) from to
EventsPlan old new events from to (Err stop.NoMemory) =
    (puts : ℕ) × (text : Bytes) × LinesStand old events puts text × Wrote puts from to text

-- ---- the whole

-- a run over these events leads to a state, and its text was written
pub record EffortTells (old : State) (events : List Event) (new : State) (from to : SinkState) : Type 0 where
  pub effort : Effort old events
  pub last : new ≡ last_state old (answers_of effort.plannings.planned)
  pub written : Wrote (2 + length events) from to (effort_text effort)

-- What stands of an effort over these events after so many puts: the text of a run over the first of them without its
-- last line, the opening's line in one put and each event's in one, or with one more the text of a run over all.
pub record EffortStands (old : State) (events : List Event) (puts : ℕ) (text : Bytes) : Type 0 where
  pub done : List Event
  pub rest : List Event
  pub split : done ++ rest ≡ events
  pub effort : Effort old done
  pub prints : ((puts ≡ 1 + length done) × (text ≡ effort_lines effort))
      ⊎ ((rest ≡ []) × (puts ≡ 2 + length done) × (text ≡ effort_text effort))

-- The opening's line, that of each event and the last are one put each. At the end a plan is shown or none, in the
-- state to which the run led. Where it stops, a put failed behind those that stand, or memory ran out before the first
-- or between two.
abbrev pub EffortEnds : State → State → List Event → SinkState → SinkState → Result Bool Stop → Type 0
EffortEnds old new events from to (Ok planned) = (planned ≡ is_some new.plan) × EffortTells old events new from to
EffortEnds old new events from to (Err stop.NotWritten) = BreaksOff (EffortStands old events) from to
EffortEnds old new events from to (Err stop.NoMemory) =
    (to ≡ from) ⊎ StopsShort (2 + length events) (EffortStands old events) from to
