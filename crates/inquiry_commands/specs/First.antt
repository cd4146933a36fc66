-- What `first` prints over the contents of its two files. It refuses those that `plan` refuses.
use Rattle.std.specs.Prelude.{◌≡◌, ◌≤◌, ℕ, List, length, Option, option_map}
use Rattle.landing_rules.specs.Flights.{Situation, Schedule}
use Rattle.landing_rules.specs.Rules.{objective}
use Rattle.landing_rules.specs.Events.{State}
use Rattle.landing_rules.specs.FirstBest.{IsFirstPlan}
use Rattle.landing_rules.specs.Text.{lines_text, plan_lines}
use Rattle.arrivals.specs.declared.aerodrome.Aerodrome.{Aerodrome}
use Rattle.arrivals.specs.declared.flight.Flight.{Flight}
use Rattle.text_bounds.specs.Blocks.{block_bound}
use Rattle.text_bounds.specs.Counts.{flight_count}
use Rattle.cps_outside.specs.SinkState.{SinkState}
use Rattle.endings.specs.declared.ending.Answer.{Answer}
use Rattle.endings.specs.declared.ending.Ending.{Ending}
use Rattle.endings.specs.Files.{HoldsOfTwo}
use Rattle.openings.specs.Follows.{FollowsAtOnce}
use Rattle.openings.specs.Plan.{AdmitsPlan, RefusesPlan, IsOpened, answer_of}

-- The text is the block of a first plan of this situation.
pub record ShowsFirstOf (s : Situation) (text : List ℕ) (answer : Answer) : Type 0 where
  pub plan : Option Schedule
  pub first : IsFirstPlan s plan
  pub prints : text ≡ lines_text (plan_lines (record { situation = s; plan = plan }))
  pub answers : answer ≡ answer_of plan

-- The same of an opening state of files that are taken.
pub record ShowsFirst (aerodrome : Aerodrome) (flights : List Flight) (text : List ℕ) (answer : Answer) : Type 0 where
  pub state : State
  pub opened : IsOpened aerodrome flights state
  pub block : ShowsFirstOf state.situation text answer

-- The files read as an aerodrome and flights, of which the text shows the first plan.
abbrev pub AdmitsFirst : List ℕ → List ℕ → List ℕ → Answer → Type 0
AdmitsFirst a f text answer = HoldsOfTwo a f (λ aerodrome flights. ShowsFirst aerodrome flights text answer)

-- what `first` does, with this ending
abbrev pub FollowsFirst : List ℕ → List ℕ → SinkState → SinkState → Ending → Type 0
FollowsFirst aerodrome flights = FollowsAtOnce (AdmitsFirst aerodrome flights) (RefusesPlan aerodrome flights)

-- two texts that `first` may print for the same files are one, with one answer
abbrev pub FirstTextIsOneLaw : Type 0
FirstTextIsOneLaw = (aerodrome flights text other : List ℕ) (answer another : Answer)
    → AdmitsFirst aerodrome flights text answer → AdmitsFirst aerodrome flights other another
    → (text ≡ other) × (answer ≡ another)

-- and its plan costs what the plan that `plan` may print for them costs
abbrev pub FirstCostsAsPlanLaw : Type 0
FirstCostsAsPlanLaw = (aerodrome flights text other : List ℕ) (answer another : Answer)
    → (first : AdmitsFirst aerodrome flights text answer) → (planned : AdmitsPlan aerodrome flights other another)
    → option_map (objective first.holds.state.situation) first.holds.block.plan
    ≡ option_map (objective planned.holds.state.situation) planned.holds.state.plan

-- how many bytes such a text has at most
abbrev pub FirstIsBoundedLaw : Type 0
FirstIsBoundedLaw = (aerodrome flights text : List ℕ) (answer : Answer) → AdmitsFirst aerodrome flights text answer
    → length text ≤ block_bound (flight_count flights)
