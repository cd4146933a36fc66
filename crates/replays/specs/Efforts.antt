-- The steps of the plannings of a run of the rules, and their text.
use Rattle.std.specs.Prelude.{◌≡◌, ◌≤◌, ⊤, ℕ, ◌+◌, List, [], ◌∷◌, ◌++◌, Option, Some, None, codes, decimal, map, sum_by}
use Rattle.landing_rules.specs.Events.{State, Event, Refusal, Answered, Run}
use Rattle.landing_rules.specs.Problem.{Problem, IsProblemOf}
use Rattle.landing_rules.specs.Text.{Bytes, line, accepted_words, refused_words}
use Rattle.cps_network.specs.Due.{IsDue}
use Rattle.replan.specs.Bound.{most_steps}

-- ---- the plannings of a run

-- an event's answer with the state after it, the problem that is held then, and the steps of its planning
pub record Planned : Type 0 where
  pub answered : Answered
  pub problem : Problem
  pub steps : ℕ

abbrev pub answers_of : List Planned → List Answered
answers_of planned = map (λ (a : Planned). a.answered) planned

abbrev pub steps_of : List Planned → ℕ
steps_of planned = sum_by (λ (a : Planned). a.steps) planned

-- the problem that is held at the end
abbrev pub last_problem : Problem → List Planned → Problem
last_problem held [] = held
last_problem held (a ∷ rest) = last_problem a.problem rest

-- after an accepted event what is due for the problem then, where that before the event is held; a refused one plans
-- nothing
abbrev pub TakesSteps : Problem → Option Refusal → Problem → ℕ → Type 0
TakesSteps held None problem steps = IsDue (Some held) problem steps
TakesSteps held (Some refusal) problem steps = (problem ≡ held) × (steps ≡ 0)

pub record IsPlanned (held : Problem) (a : Planned) : Type 0 where
  pub problem_of : IsProblemOf a.answered.state.situation a.problem
  pub steps : TakesSteps held a.answered.answer a.problem a.steps
  pub few : a.steps ≤ most_steps

-- each finds held what the one before it left
abbrev pub ArePlanned : Problem → List Planned → Type 0
ArePlanned held [] = ⊤
ArePlanned held (a ∷ rest) = IsPlanned held a × ArePlanned a.problem rest

-- a run of the rules over these events, from a state whose problem is held, with the steps of its plannings
pub record Plannings (held : Problem) (state : State) (events : List Event) : Type 0 where
  pub planned : List Planned
  pub run : Run state events (answers_of planned)
  pub steps : ArePlanned held planned

-- the same from a state whose problem was planned with nothing held, in so many steps
pub record Effort (state : State) (events : List Event) : Type 0 where
  pub problem : Problem
  pub problem_of : IsProblemOf state.situation problem
  pub opening : ℕ
  pub opened : IsDue None problem opening
  pub few : opening ≤ most_steps
  pub plannings : Plannings problem state events

-- ---- its text

abbrev pub begun_line : ℕ → Bytes
begun_line steps = line (codes "event 0 begun steps " ++ decimal steps)

-- the line of event i: its steps where it was accepted
abbrev pub answer_line : ℕ → Option Refusal → ℕ → Bytes
answer_line i None steps = line (accepted_words i ++ codes " steps " ++ decimal steps)
answer_line i (Some refusal) steps = line (refused_words i refusal)

abbrev pub answer_lines : ℕ → List Planned → Bytes
answer_lines i [] = []
answer_lines i (a ∷ rest) = answer_line i a.answered.answer a.steps ++ answer_lines (i + 1) rest

abbrev pub total_line : ℕ → Bytes
total_line steps = line (codes "total " ++ decimal steps)

-- the steps of the opening, and those of each event
abbrev pub effort_lines : {state : State} {events : List Event} → Effort state events → Bytes
effort_lines effort = begun_line effort.opening ++ answer_lines 1 effort.plannings.planned

-- and of all together
abbrev pub effort_text : {state : State} {events : List Event} → Effort state events → Bytes
effort_text effort = effort_lines effort ++ total_line (effort.opening + steps_of effort.plannings.planned)
