-- The stages of a problem with their pairs, and orders that land.
use Rattle.std.specs.Prelude.{◌≡◌, ℕ, ℤ, ◌+◌, ◌-◌, ◌<◌, Bool, false, IsTrue, List, [], length, reverse, slice_index_or}
use Rattle.landing_rules.specs.declared.objective.Objective.TheVariants.{Makespan}
use Rattle.landing_rules.specs.Problem.{Problem}
use Rattle.cps_theory.specs.Separation.{Landing}
use Rattle.cps_theory.specs.LandingTrail.{pair_of, ranks}
use Rattle.cps_theory.specs.Labels.{Pair}
use Rattle.cps_theory.specs.LegalPrefix.{Legal}
use Rattle.cps_theory.specs.ProblemNetwork.{LandedIn}
use Rattle.landing_joint.specs.RankedProblem.{ranked, cost_at}
use Rattle.cps_network.specs.Lists.{IsAscending}
use Rattle.cps_network.specs.Permits.{IsNextOf}
use Rattle.replan.specs.Labels.{StagePairs, HoldsPairs}

-- a stage with the pairs of its windows, and whether each of its candidates is said to be landable
pub record LabelledStage : Type 0 where
  pub stage : ℕ × List (List ℤ)
  pub labels : StagePairs
  pub is_whole : Bool

abbrev pub no_stage : LabelledStage
no_stage = record { stage = (0, []); labels = record { objective = Makespan; lists = [] }; is_whole = false }

abbrev pub stage_at : List LabelledStage → ℕ → LabelledStage
stage_at stages i = slice_index_or stages i no_stage

-- of so many stages, from stage 0 on, each later one that is said to be whole has exactly the windows that extend the
-- one before
abbrev pub AreWholeAsSaid : Problem → ℕ → (ℕ → Bool) → (ℕ → List (List ℤ)) → Type 0
AreWholeAsSaid p count is_whole windows =
    (i : ℕ) → 0 < i → i < count → IsTrue (is_whole i) → IsNextOf p (i - 1) (windows (i - 1)) (windows i)

-- these are stages of a problem, from stage 0 on: their landable windows, none twice, with their pairs, whole as said
pub record AreStages (p : Problem) (stages : List LabelledStage) : Type 0 where
  pub number : (i : ℕ) → i < length stages → (stage_at stages i).stage.0 ≡ i
  pub ascending : (i : ℕ) → i < length stages → IsAscending (stage_at stages i).stage.1
  pub held : (i : ℕ) → i < length stages → HoldsPairs p (stage_at stages i).stage (stage_at stages i).labels
  pub whole : AreWholeAsSaid p (length stages) (λ i. (stage_at stages i).is_whole) (λ i. (stage_at stages i).stage.1)

-- the windows of a stage, and whether they are said to be all that extend the one before
pub record HintedStage : Type 0 where
  pub stage : ℕ × List (List ℤ)
  pub is_whole : Bool

-- what is left of a stage without its pairs
abbrev pub without_pairs : LabelledStage → HintedStage
without_pairs s = record { stage = s.stage; is_whole = s.is_whole }

abbrev pub hinted_at : List HintedStage → ℕ → HintedStage
hinted_at hinted i = slice_index_or hinted i (without_pairs no_stage)

-- a problem with the windows of some of its stages
pub record Hints : Type 0 where
  pub problem : Problem
  pub stages : List HintedStage

-- of these stages of a problem each that is said to be whole has exactly the windows that extend the one before it
abbrev pub AreHints : Problem → List HintedStage → Type 0
AreHints p hinted = (i : ℕ) → i + 1 < length hinted → IsTrue (hinted_at hinted (i + 1)).is_whole
    → IsNextOf p (hinted_at hinted i).stage.0 (hinted_at hinted i).stage.1 (hinted_at hinted (i + 1)).stage.1

-- the order is legal, and its flights can be given seconds that are open and late enough one after another, the last of
-- them and what they cost together this pair
abbrev pub LandsWithPair : Problem → List ℕ → Pair → Type 0
LandsWithPair p order q = (landings : List Landing) × (ranks landings ≡ reverse order)
    × Legal (ranked p).rules (ranks landings) × LandedIn (ranked p) landings
    × (pair_of (cost_at p) landings ≡ q)
