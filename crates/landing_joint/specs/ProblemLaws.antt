-- The problem of a sound situation stands for it: its feasible lists of seconds by rank, joined with the frozen
-- landings, are exactly the feasible schedules, with equal objectives; so best and tight lists give best and
-- tight schedules, and where no list is feasible no schedule is.
use Rattle.std.specs.Prelude.{◌≡◌}
use Rattle.landing_rules.specs.Flights.{Situation, Schedule}
use Rattle.landing_rules.specs.Rules.{IsFeasible, IsBest, IsTight, objective}
use Rattle.landing_rules.specs.Problem.{Problem, IsProblemOf, IsFeasibleList, IsBestList, IsTightList, list_objective}
use Rattle.landing_rules.specs.Problem.{joined}
use Rattle.landing_rules.specs.Sound.{IsSound}

abbrev pub ListGivesScheduleLaw : Type 0
ListGivesScheduleLaw = (s : Situation) (p : Problem) (t : Schedule) → IsSound s → IsProblemOf s p
    → IsFeasibleList p t → IsFeasible s (joined s t)

abbrev pub ScheduleGivesListLaw : Type 0
ScheduleGivesListLaw = (s : Situation) (p : Problem) (t : Schedule) → IsSound s → IsProblemOf s p
    → IsFeasible s t → (u : Schedule) × IsFeasibleList p u × (t ≡ joined s u)

abbrev pub SameObjectiveLaw : Type 0
SameObjectiveLaw = (s : Situation) (p : Problem) (t : Schedule) → IsSound s → IsProblemOf s p
    → IsFeasibleList p t → objective s (joined s t) ≡ list_objective p t

abbrev pub BestListLaw : Type 0
BestListLaw = (s : Situation) (p : Problem) (t : Schedule) → IsSound s → IsProblemOf s p → IsBestList p t
    → IsBest s (joined s t)

abbrev pub TightListLaw : Type 0
TightListLaw = (s : Situation) (p : Problem) (t : Schedule) → IsSound s → IsProblemOf s p → IsTightList p t
    → IsTight s (joined s t)

abbrev pub NoListLaw : Type 0
NoListLaw = (s : Situation) (p : Problem) → IsSound s → IsProblemOf s p → ((t : Schedule) → IsFeasibleList p t → ⊥)
    → (t : Schedule) → IsFeasible s t → ⊥
