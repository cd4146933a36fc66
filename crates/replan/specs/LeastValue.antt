-- The least objective of a problem's feasible lists, and the place of the last stage that tells it.
use Rattle.std.specs.Prelude.{◌≡◌, ℕ, ◌<◌, ◌≤◌, length, Option, Some, None}
use Rattle.landing_rules.specs.Flights.{Schedule}
use Rattle.landing_rules.specs.Problem.{Problem, IsFeasibleList, IsBestList, list_objective}
use Rattle.cps_theory.specs.RankLists.{of_rank}
use Rattle.cps_theory.specs.Feasible.{second_and_cost}
use Rattle.cps_theory.specs.Labels.{Pair}
use Rattle.cps_network.specs.Pairs.{list_at}
use Rattle.landing_joint.specs.RankedProblem.{cost_at}
use Rattle.replan.specs.Labels.{StagePairs, last_pair, worth}

-- the objective of a best list, or none where no list is feasible
abbrev pub IsLeastValue : Problem → Option ℕ → Type 0
IsLeastValue p None = (t : Schedule) → IsFeasibleList p t → ⊥
IsLeastValue p (Some v) = (t : Schedule) × IsBestList p t × (list_objective p t ≡ v)

-- the last pair of the list at this place is worth no more than that of another
abbrev pub IsLeastPlace : StagePairs → ℕ → Type 0
IsLeastPlace labels place = (place < length labels.lists)
    × ((i : ℕ) → i < length labels.lists
    → worth labels.objective (last_pair (list_at labels.lists place)) ≤ worth labels.objective
    (last_pair (list_at labels.lists i)))

-- no feasible list is worth less than this pair
abbrev pub IsWorthNoMore : Problem → Pair → Type 0
IsWorthNoMore p q = (u : Schedule) → IsFeasibleList p u
    → worth p.objective q ≤ worth p.objective (second_and_cost (cost_at p) (length p.flights) (of_rank 0 u))
