-- What is held of a problem.
use Rattle.std.specs.Prelude.{◌≡◌, ℕ, ◌+◌, ◌-◌, ◌*◌, List, length, Option, option_map}
use Rattle.landing_rules.specs.Problem.{Problem}
use Rattle.cps_problem.specs.FirstDifference.{IsFirstDifference}
use Rattle.replan.specs.Stages.{LabelledStage, AreStages}

-- a problem with stages of it
pub record HeldProblem : Type 0 where
  pub problem : Problem
  pub stages : List LabelledStage

-- these are all of its stages, from 0 to the number of its flights: exactly the landable windows of each, of the width
-- that its k asks, with exactly their undominated pairs for its objective
pub record IsHeld (width : ℕ) (h : HeldProblem) : Type 0 where
  pub width_is : width ≡ 2 * h.problem.k + 1
  pub held : AreStages h.problem h.stages
  pub whole : length h.stages ≡ length h.problem.flights + 1

-- so many stages, from stage 0 on, a problem has in common with one that is held: those from which even the greatest
-- shift does not reach their first difference
abbrev pub AreInCommon : Problem → Problem → ℕ → Type 0
AreInCommon held p count = (d : ℕ) × IsFirstDifference held p d × (count ≡ d - p.k)

-- the problem that is held, where there is one
abbrev pub held_problem : Option HeldProblem → Option Problem
held_problem held = option_map (λ (h : HeldProblem). h.problem) held
