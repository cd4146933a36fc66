-- What `trial` prints of the traffic of a seed.
use Rattle.std.specs.Prelude.{◌≡◌, ◌≤◌, ℕ, List, length, map, IsSome}
use Rattle.landing_rules.specs.Events.{State, IsOpeningState}
use Rattle.landing_rules.specs.Problem.{Problem, IsProblemOf}
use Rattle.landing_rules.specs.Sound.{IsSoundState}
use Rattle.landing_rules.specs.Text.{plan_shown}
use Rattle.arrivals.specs.Seen.{flight_of}
use Rattle.replan.specs.Bound.{most_steps}
use Rattle.sequencer.specs.Opened.{opening_of}
use Rattle.cps_network.specs.Due.{HasCandidatesUpto}
use Rattle.traffic_gen.specs.Made.{Made, traffic}
use Rattle.plan_text.specs.Trial.{trial_text}
use Rattle.cps_outside.specs.SinkState.{SinkState}
use Rattle.endings.specs.declared.ending.Answer.{Answer}
use Rattle.endings.specs.declared.ending.Answer.TheVariants.{Scheduled}
use Rattle.endings.specs.declared.ending.Ending.{Ending}
use Rattle.openings.specs.Follows.{FollowsAtOnce}
use Rattle.endings.specs.Refusing.{Stops}

-- The text is the summary of an opening state of this traffic, with the number of the candidates of all stages of its
-- problem. The state shows a plan, as the answer says.
pub record Sums (made : Made) (n k : ℕ) (text : List ℕ) (answer : Answer) : Type 0 where
  pub state : State
  pub opens : IsOpeningState (opening_of made.aerodrome) (map flight_of made.flights) state
  pub planned : IsSome state.plan
  pub problem : Problem
  pub problem_of : IsProblemOf state.situation problem
  pub sound : IsSoundState state
  pub nodes : ℕ
  pub few : nodes ≤ most_steps
  pub candidates : HasCandidatesUpto problem (length problem.flights) nodes
  pub prints : text ≡ trial_text n k nodes state.situation.aerodrome.objective (plan_shown state)
  pub answers : answer ≡ Scheduled

-- The text is the summary of the traffic of a seed.
abbrev pub AdmitsTrial : ℕ → ℕ → ℕ → List ℕ → Answer → Type 0
AdmitsTrial seed n k = Sums (traffic seed n k) n k

-- how `trial`, which refuses nothing, may stop before it writes
abbrev pub StopsTrial : Ending → Type 0
StopsTrial = Stops (λ refusal. ⊥)

-- what `trial` does, with this ending
abbrev pub FollowsTrial : ℕ → ℕ → ℕ → SinkState → SinkState → Ending → Type 0
FollowsTrial seed n k = FollowsAtOnce (AdmitsTrial seed n k) (λ refusal. ⊥)
