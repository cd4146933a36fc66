-- What a planner answers.
use Rattle.std.specs.Prelude.{ℕ, ◌≤◌, Option, MatchOption, ⊤}
use Rattle.cps_base.specs.Limits.{greatest_delay_k}
use Rattle.landing_rules.specs.declared.objective.Objective.{Objective}
use Rattle.landing_rules.specs.declared.objective.Objective.TheVariants.{Makespan, Delay}
use Rattle.landing_rules.specs.Flights.{Schedule}
use Rattle.landing_rules.specs.Problem.{Problem, IsFeasibleList, IsBestList, IsTightList}

-- a planner is asked for the makespan with any k, and for the delay with at most two places of shift
abbrev pub IsWithinShift : Objective → ℕ → Type 0
IsWithinShift Makespan k = ⊤
IsWithinShift Delay k = k ≤ greatest_delay_k

abbrev pub IsPlannable : Problem → Type 0
IsPlannable p = IsWithinShift p.objective p.k

-- a best and tight list, or none where no list is feasible
abbrev pub IsAnswerOf : Problem → Option Schedule → Type 0
IsAnswerOf p answer = MatchOption answer ((t : Schedule) → IsFeasibleList p t → ⊥) (λ t. IsBestList p t
    × IsTightList p t)
