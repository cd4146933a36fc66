-- Stages that two problems have in common.
use Rattle.std.specs.Prelude.{◌≡◌, ℕ, ℤ, ◌+◌, ◌<◌, ◌≤◌, ◌↔◌, List, false}
use Rattle.cps_theory.specs.Separation.{Landing}
use Rattle.cps_theory.specs.LandingTrail.{pair_of, ranks}
use Rattle.cps_theory.specs.LegalPrefix.{Legal}
use Rattle.cps_theory.specs.ProblemNetwork.{LandedIn}
use Rattle.cps_theory.specs.Agreement.{counts}
use Rattle.landing_joint.specs.RankedProblem.{ranked, cost_at}
use Rattle.landing_rules.specs.Problem.{Problem}
use Rattle.cps_problem.specs.FirstDifference.{AgreeUpTo, IsFirstDifference, IsWithinBoth}
use Rattle.cps_network.specs.Landable.{IsLandable}
use Rattle.cps_network.specs.Nodes.{node_of}

-- these landings, latest first, are those of a legal prefix that ends in a window of a stage, at seconds that are open
-- and late enough one after another
abbrev pub LandIn : Problem → ℕ → List ℤ → List Landing → Type 0
LandIn p stage xs landings = Legal (ranked p).rules (ranks landings) × LandedIn (ranked p) landings
    × (node_of p.k (ranks landings) ≡ (stage, xs))

-- what lands in a window of a stage of one problem lands there in another, with the same last second and the same cost
abbrev pub LandAlike : Problem → Problem → ℕ → Type 0
LandAlike p q stage = (xs : List ℤ) (landings : List Landing) → LandIn p stage xs landings
    → LandIn q stage xs landings × (pair_of (cost_at p) landings ≡ pair_of (cost_at q) landings)

-- two problems have a stage in common: the same landable windows, and in each the same landings
pub record HaveStageInCommon (p q : Problem) (stage : ℕ) : Type 0 where
  pub landable : (xs : List ℤ) → IsLandable p stage xs ↔ IsLandable q stage xs
  pub there : LandAlike p q stage
  pub back : LandAlike q p stage

-- problems that agree up to a rank have the stages in common from which even the greatest shift does not reach that
-- rank
abbrev pub EarlyStagesAreKept : Problem → Problem → Type 0
EarlyStagesAreKept p q = (d : ℕ) → IsWithinBoth p q d → AgreeUpTo p q d → (stage : ℕ) → stage + p.k < d
    → HaveStageInCommon p q stage

-- so they have in common each stage from 1 on that does not count for what is due
abbrev pub UncountedStagesAreKept : Problem → Problem → Type 0
UncountedStagesAreKept p q = (d : ℕ) → IsFirstDifference p q d → (last stage : ℕ) → 1 ≤ stage
    → counts d q.k last stage ≡ false → HaveStageInCommon p q stage
