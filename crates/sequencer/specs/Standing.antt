-- What is true of every sequencer.
use Rattle.std.specs.Prelude.{◌≡◌, ℕ, Option}
use Rattle.landing_rules.specs.Events.{State}
use Rattle.landing_rules.specs.Problem.{Problem, IsProblemOf}
use Rattle.landing_rules.specs.Sound.{IsSoundState}
use Rattle.landing_rules.specs.Text.{ShownPlan, plan_shown}
use Rattle.cps_problem.specs.Plans.{IsWithinShift}

-- a state of the rules, the problem of its situation, and the planner
pub record Standing (P : Type 0) : Type 0 where
  pub state : State
  pub problem : Problem
  pub planner : P

-- a sound state, what is shown of it, its problem, and the planner's k
pub record IsInStep (state : State) (plan : Option ShownPlan) (problem : Problem) (k : ℕ) : Type 0 where
  pub sound : IsSoundState state
  pub shown : plan ≡ plan_shown state
  pub problem_of : IsProblemOf state.situation problem
  pub same_k : state.situation.aerodrome.k ≡ k
  pub plannable : IsWithinShift state.situation.aerodrome.objective state.situation.aerodrome.k
