-- How many bytes the text of a run has at most.
use Rattle.std.specs.Prelude.{⊤, ℕ, ◌+◌, ◌*◌, ◌≤◌, min, List, All, Option, Some, None, length}
use Rattle.cps_base.specs.Limits.{most_events, most_flights}
use Rattle.landing_rules.specs.Rules.{last_second}
use Rattle.landing_rules.specs.Events.{Answered, Cancel, Event, Revise, Run, State}
use Rattle.landing_rules.specs.Sound.{IsGoodEvent, IsSoundState}
use Rattle.landing_rules.specs.Text.{replay_text}

-- the line of an answer has at most 50 bytes, and 30 where a block follows
abbrev pub answer_bound : ℕ → ℕ
answer_bound active = 50 + 29 * active

-- the most flights that can be active in a run
abbrev pub most_active : ℕ → ℕ → ℕ
most_active flights events = min most_flights (flights + events)

-- an answer for the opening, and one for each event
abbrev pub replay_bound : ℕ → ℕ → ℕ
replay_bound flights events = (events + 1) * answer_bound (most_active flights events)

-- the callsign that an event names has at most 8 bytes
abbrev pub HasShortName : Event → Type 0
HasShortName (Revise c r) = length c ≤ 8
HasShortName (Cancel c) = length c ≤ 8
HasShortName e = ⊤

-- the clock shows a second of the two days, or none
abbrev pub IsInDays : Option ℕ → Type 0
IsInDays None = ⊤
IsInDays (Some now) = now ≤ last_second

-- a sound state, whose clock shows one
pub record IsTellable (state : State) : Type 0 where
  pub sound : IsSoundState state
  pub clock : IsInDays state.situation.clock

abbrev pub ReplayIsBoundedLaw : Type 0
ReplayIsBoundedLaw = (opening : State) (events : List Event) (answers : List Answered) → IsTellable opening
    → All IsGoodEvent events → All HasShortName events
    → length events ≤ most_events → Run opening events answers
    → length (replay_text opening answers) ≤ replay_bound (length opening.situation.active) (length events)
