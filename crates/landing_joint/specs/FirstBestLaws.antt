-- The first best schedule of a sound situation: there is one where a schedule is feasible, it is one, and the first
-- best list of the problem, joined with the frozen landings, is it. The same of lists.
use Rattle.std.specs.Prelude.{◌≡◌, Option, option_map}
use Rattle.landing_rules.specs.Flights.{Situation, Schedule}
use Rattle.landing_rules.specs.Rules.{IsFeasible, IsBest, objective}
use Rattle.landing_rules.specs.Events.{IsPlanShown}
use Rattle.landing_rules.specs.Problem.{Problem, IsProblemOf, IsFeasibleList, joined}
use Rattle.landing_rules.specs.FirstBest.{IsFirstBest, IsFirstPlan, IsFirstBestList, IsFirstList}
use Rattle.landing_rules.specs.Sound.{IsSound}
use Rattle.landing_joint.specs.SoundProblem.{IsSoundProblem}

abbrev pub FirstBestListLaw : Type 0
FirstBestListLaw = (s : Situation) (p : Problem) (t : Schedule) → IsSound s → IsProblemOf s p
    → IsFirstBestList p t → IsFirstBest s (joined s t)

-- two first best schedules are one
abbrev pub FirstBestIsOneLaw : Type 0
FirstBestIsOneLaw = (s : Situation) (t u : Schedule) → IsSound s → IsFirstBest s t → IsFirstBest s u → t ≡ u

-- it costs what every best schedule costs
abbrev pub FirstBestObjectiveLaw : Type 0
FirstBestObjectiveLaw = (s : Situation) (t u : Schedule) → IsFirstBest s t → IsBest s u → objective s t ≡ objective s u

-- where a schedule is feasible there is a first best one: a first best list, joined with the frozen landings
abbrev pub FirstBestExistsLaw : Type 0
FirstBestExistsLaw = (s : Situation) (p : Problem) (t : Schedule) → IsSound s → IsProblemOf s p
    → IsFeasible s t → (u : Schedule) × IsFirstBestList p u × IsFirstBest s (joined s u)

-- ---- the first plan: a first best schedule, or none where none is feasible

-- two first plans are one, and so are their blocks
abbrev pub FirstPlanIsOneLaw : Type 0
FirstPlanIsOneLaw = (s : Situation) (plan other : Option Schedule) → IsSound s → IsFirstPlan s plan
    → IsFirstPlan s other → plan ≡ other

-- it is a plan that may be shown
abbrev pub FirstPlanIsShownLaw : Type 0
FirstPlanIsShownLaw = (s : Situation) (plan : Option Schedule) → IsFirstPlan s plan → IsPlanShown s plan

-- the first list of the problem, joined with the frozen landings, is it
abbrev pub FirstListGivesPlanLaw : Type 0
FirstListGivesPlanLaw = (s : Situation) (p : Problem) (list : Option Schedule) → IsSound s
    → IsProblemOf s p → IsFirstList p list → IsFirstPlan s (option_map (joined s) list)

-- ---- lists

abbrev pub SoundProblemLaw : Type 0
SoundProblemLaw = (s : Situation) (p : Problem) → IsSound s → IsProblemOf s p → IsSoundProblem p

abbrev pub FirstBestListIsOneLaw : Type 0
FirstBestListIsOneLaw = (p : Problem) (t u : Schedule) → IsSoundProblem p → IsFirstBestList p t
    → IsFirstBestList p u → t ≡ u

abbrev pub FirstBestListExistsLaw : Type 0
FirstBestListExistsLaw = (p : Problem) (t : Schedule) → IsSoundProblem p → IsFeasibleList p t
    → (u : Schedule) × IsFirstBestList p u
