-- Runs of what the files hold, and that the printed text of a run fixes it.
use Rattle.std.specs.Prelude.{◌≡◌, ℕ, List, take, All}
use Rattle.landing_rules.specs.Flights.{Flight}
use Rattle.landing_rules.specs.Events.{Event, State, Answered, Run, Opening, IsOpeningState, opening_situation}
use Rattle.landing_rules.specs.Sound.{IsSound, IsGoodEvent}
use Rattle.landing_rules.specs.Text.{replay_text}

-- from an opening state, over the first n events
pub record IsRunOf (o : Opening) (flights : List Flight) (events : List Event) (n : ℕ) (opening : State)
    (answers : List Answered) : Type 0 where
  pub opened : IsOpeningState o flights opening
  pub steps : Run opening (take n events) answers

-- two runs of the same files with the same text have the same opening state, and the same answers and states after them
abbrev pub TextLaw : Type 0
TextLaw = (o : Opening) (flights : List Flight) (events : List Event) (m n : ℕ) (s t : State) (xs ys : List Answered) →
    IsSound (opening_situation o flights) → All IsGoodEvent events → IsRunOf o flights events m s xs
    → IsRunOf o flights events n t ys →
    replay_text s xs ≡ replay_text t ys → (s ≡ t) × (xs ≡ ys)
