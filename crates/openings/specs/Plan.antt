-- What an aerodrome file and a flight file open, and what `plan` may print of them.
use Rattle.std.specs.Prelude.{◌≡◌, ◌≤◌, ℕ, Bool, List, map, is_some, Option, None, if◌then◌else◌}
use Rattle.landing_rules.specs.Flights.{Schedule}
use Rattle.landing_rules.specs.Events.{State, IsOpeningState}
use Rattle.landing_rules.specs.Problem.{IsProblemOf}
use Rattle.landing_rules.specs.Sound.{IsSoundState}
use Rattle.landing_rules.specs.Text.{lines_text, plan_lines}
use Rattle.cps_network.specs.Due.{IsDue}
use Rattle.replan.specs.Bound.{most_steps}
use Rattle.replan.specs.Kept.{Holds}
use Rattle.replan.specs.declared.any_kept.AnyKept.{AnyKept}
use Rattle.sequencer.specs.Standing.{Standing}
use Rattle.arrivals.specs.declared.aerodrome.Aerodrome.{Aerodrome}
use Rattle.arrivals.specs.declared.flight.Flight.{Flight}
use Rattle.arrivals.specs.Seen.{flight_of}
use Rattle.sequencer.specs.Opened.{opening_of}
use Rattle.endings.specs.declared.ending.Answer as answers
use Rattle.endings.specs.declared.ending.Answer.TheVariants.{Scheduled, Infeasible}
use Rattle.endings.specs.declared.ending.Ending.{Ending}
use Rattle.endings.specs.declared.ending.FilesFault.{FilesFault}
use Rattle.endings.specs.Files.{HoldsOfTwo}
use Rattle.endings.specs.Refusing.{RefusesTwo, Stops, opening_refusal}

abbrev pub RefusesPlan : List ℕ → List ℕ → FilesFault → Type 0
RefusesPlan = RefusesTwo

-- what is answered where a plan is shown last, or none
abbrev pub answer_by : Bool → answers.Answer
answer_by planned = if planned then Scheduled else Infeasible

abbrev pub answer_of : Option Schedule → answers.Answer
answer_of plan = answer_by (is_some plan)

-- The files are taken, and this is an opening state of them, which is sound.
pub record IsOpened (aerodrome : Aerodrome) (flights : List Flight) (state : State) : Type 0 where
  pub taken : opening_refusal aerodrome flights ≡ None
  pub opens : IsOpeningState (opening_of aerodrome) (map flight_of flights) state
  pub sound : IsSoundState state

-- The planner holds the problem, which was planned in so many steps with nothing held, at most 49,412,580.
pub record IsPlannedAnew (s : Standing AnyKept) (steps : ℕ) : Type 0 where
  pub problem_of : IsProblemOf s.state.situation s.problem
  pub held : Holds s.planner s.problem
  pub due : IsDue None s.problem steps
  pub few : steps ≤ most_steps

-- The text is the block of an opening state of files that are taken.
pub record ShowsPlan (aerodrome : Aerodrome) (flights : List Flight) (text : List ℕ)
    (answer : answers.Answer) : Type 0 where
  pub state : State
  pub opened : IsOpened aerodrome flights state
  pub prints : text ≡ lines_text (plan_lines state)
  pub answers : answer ≡ answer_of state.plan

-- The files read as an aerodrome and flights, of which the text shows the plan.
abbrev pub AdmitsPlan : List ℕ → List ℕ → List ℕ → answers.Answer → Type 0
AdmitsPlan a f text answer = HoldsOfTwo a f (λ aerodrome flights. ShowsPlan aerodrome flights text answer)

-- how `plan` may stop before it writes
abbrev pub StopsPlan : List ℕ → List ℕ → Ending → Type 0
StopsPlan aerodrome flights = Stops (RefusesPlan aerodrome flights)
