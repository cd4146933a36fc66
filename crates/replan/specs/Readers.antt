-- What is read of the stages that are held.
use Rattle.std.specs.Prelude.{◌≡◌, ℕ, ℤ, ◌-◌, ◌<◌, ◌≤◌, List, [], length, Option, Some, None}
use Rattle.cps_theory.specs.Labels.{Pair}
use Rattle.landing_rules.specs.Problem.{Problem}
use Rattle.cps_network.specs.Lists.{node_at, IsAscending}
use Rattle.cps_network.specs.Pairs.{HoldsCosts, list_at}
use Rattle.replan.specs.Held.{HeldProblem}
use Rattle.replan.specs.Stages.{stage_at}

-- the number of the last stage that is held, and 0 with none
abbrev pub stages_in : Option HeldProblem → ℕ
stages_in None = 0
stages_in (Some h) = length h.stages - 1

-- a stage that is held, and the pairs of its windows
abbrev pub stage_in : Option HeldProblem → ℕ → ℕ × List (List ℤ)
stage_in None i = (0, [])
stage_in (Some h) i = (stage_at h.stages i).stage

abbrev pub lists_in : Option HeldProblem → ℕ → List (List Pair)
lists_in None i = []
lists_in (Some h) i = (stage_at h.stages i).labels.lists

-- the window at a place of a stage, and its pairs
abbrev pub window_in : Option HeldProblem → ℕ → ℕ → List ℤ
window_in held stage i = node_at (stage_in held stage).1 i

abbrev pub pairs_in : Option HeldProblem → ℕ → ℕ → List Pair
pairs_in held stage i = list_at (lists_in held stage) i

-- a stage that may be read, and a place of it
abbrev pub IsReadable : Option HeldProblem → ℕ → Type 0
IsReadable held stage = (1 ≤ stage) × (stage ≤ stages_in held)

abbrev pub HasPlace : Option HeldProblem → ℕ → ℕ → Type 0
HasPlace held stage i = i < length (stage_in held stage).1

-- the stages of a problem are held, each under its number: the landable windows, none twice, with exactly the
-- undominated pairs of each
pub record AreStagesOf (p : Problem) (held : Option HeldProblem) : Type 0 where
  pub whole : stages_in held ≡ length p.flights
  pub number : (i : ℕ) → i ≤ length p.flights → (stage_in held i).0 ≡ i
  pub ascending : (i : ℕ) → i ≤ length p.flights → IsAscending (stage_in held i).1
  pub pairs : (i : ℕ) → i ≤ length p.flights → HoldsCosts p (stage_in held i) (lists_in held i)
