-- What a replay writes, by runs of the rules.
use Rattle.std.specs.Prelude.{◌≡◌, ◌⊎◌, ℕ, ◌+◌, List, [], ◌∷◌, ◌++◌, length, Bool, Some, None, is_some, MatchOption}
use Rattle.std.specs.Prelude.{Result, Ok, Err}
use Rattle.cps_outside.specs.Puts.{Wrote, BreaksOff, StopsShort}
use Rattle.cps_outside.specs.SinkState.{SinkState}
use Rattle.landing_rules.specs.Events.{State, Event, Answered, Run}
use Rattle.landing_rules.specs.Text.{Bytes, answer_text, replay_text}
use Rattle.situations.specs.declared.refusal.Refusal.{Refusal}
use Rattle.situations.specs.Answers.{refusal_of}
use Rattle.replays.specs.Written.{PutsText}
use Rattle.replays.specs.declared.stops.Stop.{Stop}
use Rattle.replays.specs.declared.stops.Stop.TheVariants as stop

-- the state in which a run ends
abbrev pub last_state : State → List Answered → State
last_state state [] = state
last_state state (a ∷ rest) = last_state a.state rest

-- What is put of event i, by what came of it and the state behind it: that it was accepted and the plan, or its
-- refusal. Where memory ran out it is not answered.
abbrev pub PutsAnswer : State → ℕ → Result (Unit {0}) Refusal → SinkState → SinkState → Result (Unit {0}) Stop → Type 0
PutsAnswer state i (Ok u) from to result = PutsText (answer_text i None state) from to result
PutsAnswer state i (Err refusal) from to result = MatchOption (refusal_of refusal)
    ((to ≡ from) × (result ≡ Err stop.NoMemory))
    (λ answer. PutsText (answer_text i (Some answer) state) from to result)

-- a run over these events leads to a state, and its text was written
pub record RunTells (old : State) (events : List Event) (new : State) (from to : SinkState) : Type 0 where
  pub answers : List Answered
  pub run : Run old events answers
  pub last : new ≡ last_state old answers
  pub written : Wrote (1 + length events) from to (replay_text old answers)

-- What stands of a replay of these events after so many puts: the text of a run over the first of them, the opening
-- plan in one put and each answer in one.
pub record ReplayStands (old : State) (events : List Event) (puts : ℕ) (text : Bytes) : Type 0 where
  pub done : List Event
  pub rest : List Event
  pub split : done ++ rest ≡ events
  pub count : puts ≡ 1 + length done
  pub answers : List Answered
  pub run : Run old done answers
  pub prints : text ≡ replay_text old answers

-- The whole replay. At its end a plan is shown or none, in the state to which the run led. Where it stops, a put failed
-- behind those that stand, or memory ran out before the first or between two.
abbrev pub ReplayEnds : State → State → List Event → SinkState → SinkState → Result Bool Stop → Type 0
ReplayEnds old new events from to (Ok planned) = (planned ≡ is_some new.plan) × RunTells old events new from to
ReplayEnds old new events from to (Err stop.NotWritten) = BreaksOff (ReplayStands old events) from to
ReplayEnds old new events from to (Err stop.NoMemory) =
    (to ≡ from) ⊎ StopsShort (1 + length events) (ReplayStands old events) from to
