-- What is shown of the first plan of a situation.
use Rattle.std.specs.Prelude.{◌≡◌, ℕ, Option, option_map}
use Rattle.landing_rules.specs.Flights.{Situation, Schedule}
use Rattle.landing_rules.specs.FirstBest.{IsFirstPlan}
use Rattle.landing_rules.specs.Text.{ShownPlan, plan_shown}

-- this is shown of a first plan: a first best schedule, or none exactly where no schedule is feasible
pub record IsFirstShown (s : Situation) (shown : Option ShownPlan) : Type 0 where
  pub schedule : Option Schedule
  pub first : IsFirstPlan s schedule
  pub is : shown ≡ plan_shown (record { situation = s; plan = schedule })

-- the objective of what is shown, where there is a plan
abbrev pub value_of : Option ShownPlan → Option ℕ
value_of shown = option_map (λ (p : ShownPlan). p.value) shown
