-- The completing pairs that are of use within a budget. Prefixes and their landings stand latest first.
use Rattle.std.specs.Prelude.{ℕ, ◌+◌, ◌≤◌, List, Option, Some, None}
use Rattle.landing_rules.specs.Problem.{Problem}
use Rattle.cps_theory.specs.Labels.{Pair}
use Rattle.cps_theory.specs.LandingTrail.{cost_of, latest_landing, ranks}
use Rattle.cps_theory.specs.Separation.{Landing}
use Rattle.cps_theory.specs.ProblemNetwork.{LandedIn}
use Rattle.cps_theory.specs.CompletingPairs.{NoEarlierNoDearer}
use Rattle.landing_joint.specs.RankedProblem.{ranked, cost_at}
use Rattle.landing_joint.specs.CompletingPairs.{AreOneNode, IsLegal}

-- some legal prefix of the node of rs lands its last flight at or before the pair's second, and with the pair's cost it
-- costs no more than the budget
pub record IsOfUse (p : Problem) (budget : ℕ) (rs : List ℕ) (q : Pair) : Type 0 where
  pub landings : List Landing
  pub legal : IsLegal p (ranks landings)
  pub landed : LandedIn (ranked p) landings
  pub one_node : AreOneNode (ranks landings) rs
  pub by : (latest_landing landings).1 ≤ q.0
  pub cheap : cost_of (cost_at p) landings + q.1 ≤ budget

-- the pairs that are asked for: those of use within a budget, and with no budget all
abbrev pub IsWanted : Problem → Option ℕ → List ℕ → Pair → Type 0
IsWanted p None rs q = Unit {0}
IsWanted p (Some budget) rs q = IsOfUse p budget rs q

-- the kept pairs of a node: each completes it, and each that does and is wanted has a kept one at least as late and at
-- most as dear
pub record KeepsWanted (Completing Wanted Keeps : Pair → Type 0) : Type 0 where
  pub completes : (q : Pair) → Keeps q → Completing q
  pub covers : (q : Pair) → Completing q → Wanted q → (o : Pair) × Keeps o × NoEarlierNoDearer o q
