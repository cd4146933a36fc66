-- The lists of a stage, from those of the stage before.
use Rattle.std.specs.Prelude.{◌≡◌, ℕ, ℤ, ◌+◌, ◌*◌, List}
use Rattle.cps_theory.specs.Labels.{InPairs, Pair}
use Rattle.landing_rules.specs.Problem.{Problem}
use Rattle.cps_problem.specs.WellFormed.{IsWellFormed}
use Rattle.cps_network.specs.Lists.{node_at}
use Rattle.cps_network.specs.Pairs.{ArePairsOf, GivesPair, HoldsCosts}
use Rattle.cps_network.specs.Permits.{IsNextOf}
use Rattle.cps_network.specs.WindowLaws.{WindowLaws}
use Rattle.stage_landings.specs.Reach.{StageOf}

-- these are the pairs of the window at a place of a stage, and each comes from a pair of a window that leads to it
pub record IsListOf (p : Problem) (before : ℕ × List (List ℤ)) (lists : List (List Pair)) (stage : ℕ × List (List ℤ))
    (i : ℕ) (pairs : List Pair) : Type 0 where
  pub pairs_are : ArePairsOf p stage.0 (node_at stage.1 i) pairs
  pub sources : (q : Pair) → InPairs q pairs → (place : ℕ) × (index : ℕ)
      × GivesPair p before lists (node_at stage.1 i) q place index

-- the stage of these landings comes by permitted ranks from the stage before, of which the landable windows are held with
-- their pairs
pub record IsStageBehind (landings : StageOf) (w : ℕ) (before : ℕ × List (List ℤ)) (lists : List (List Pair))
    (stage : ℕ × List (List ℤ)) : Type 0 where
  pub at : landings.number ≡ stage.0
  pub formed : IsWellFormed landings.problem
  pub width : w ≡ 2 * landings.problem.k + 1
  pub laws : WindowLaws landings.problem w
  pub held : HoldsCosts landings.problem before lists
  pub number : stage.0 ≡ before.0 + 1
  pub next : IsNextOf landings.problem before.0 before.1 stage.1
