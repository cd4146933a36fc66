-- How late pairs are, and how much landings and pairs cost at most.
use Rattle.std.specs.Prelude.{ℕ, ◌≤◌}
use Rattle.cps_theory.specs.Labels.{Pair}
use Rattle.landing_rules.specs.Problem.{Problem}
use Rattle.landing_rules.specs.Rules.{last_second}
use Rattle.stage_landings.specs.Reach.{IsLatest}

-- a pair's second is one of the two days
abbrev pub IsInDays : Pair → Type 0
IsInDays q = q.0 ≤ last_second

-- the greatest number of a `u32`, which no pair costs
abbrev pub beyond_costs : ℕ
beyond_costs = 4294967295

-- what a pair may cost so that, with one landing more, it is at most that number
abbrev pub most_before : ℕ
most_before = 4277687395

-- a pair behind which one landing more may come: its rank landed last at its second, and its cost leaves room
pub record IsLeading (p : Problem) (last : ℕ) (q : Pair) : Type 0 where
  pub latest : IsLatest p last q.0
  pub cost : q.1 ≤ most_before
