-- What every event keeps: a situation that a run can reach leads to one again, by each kind of event and over a whole
-- run.
use Rattle.std.specs.Prelude.{◌≡◌, List, Option, Some, None, All}
use Rattle.landing_rules.specs.Flights.{Situation, Schedule}
use Rattle.landing_rules.specs.Rules.{IsFeasible}
use Rattle.landing_rules.specs.Events.{Event, Refusal, State, Step, Answered, Run, refusal, situation_after}
use Rattle.landing_rules.specs.Sound.{IsSound, IsSoundState, IsGoodEvent}

-- an event that is not refused leaves a sound situation, where the plan shown before it, if one was, is feasible
abbrev pub EventKeepsSoundLaw : Type 0
EventKeepsSoundLaw = (s : Situation) (plan : Option Schedule) (e : Event) → IsSound s → IsGoodEvent e
    → ((t : Schedule) → plan ≡ Some t → IsFeasible s t) → refusal s e ≡ None → IsSound (situation_after s plan e)

-- whatever a step answers, it leads to a sound state
abbrev pub StepKeepsSoundLaw : Type 0
StepKeepsSoundLaw = (old new : State) (e : Event) (answer : Option Refusal) → IsSoundState old
    → IsGoodEvent e → Step old e answer new → IsSoundState new

-- so each state of a run is sound
abbrev pub RunKeepsSoundLaw : Type 0
RunKeepsSoundLaw = (old : State) (events : List Event) (answers : List Answered) → IsSoundState old
    → All IsGoodEvent events → Run old events answers → All (λ a. IsSoundState a.state) answers
