-- The stages of a problem with the pairs that complete their nodes.
use Rattle.std.specs.Prelude.{◌≡◌, ℕ, ◌+◌, ◌-◌, ◌<◌, ◌≤◌, ◌⊎◌, ◌↔◌, List, length, slice_index_or, Option, Some, None}
use Rattle.landing_rules.specs.Problem.{Problem}
use Rattle.cps_theory.specs.Labels.{InPairs, Pair}
use Rattle.cps_theory.specs.LandingTrail.{ranks}
use Rattle.cps_theory.specs.Separation.{Landing}
use Rattle.cps_theory.specs.CompletingPairs.{UndominatedCompleting}
use Rattle.landing_joint.specs.CompletingPairs.{budget_of, IsCompletingPair, IsLegal}
use Rattle.cps_network.specs.Nodes.{node_of}
use Rattle.cps_network.specs.Pairs.{list_at}
use Rattle.replan.specs.Held.{HeldProblem}
use Rattle.replan.specs.Readers.{stage_in, window_in}
use Rattle.first_best.specs.declared.node.EarlyNode.{EarlyNode}
use Rattle.first_best.specs.Nodes.{node_at, AreNodesOf, IsLandedPrefix, IsPrefixOf}
use Rattle.first_best.specs.Gathered.{IsGathered, place_at}
use Rattle.first_best.specs.Completing.{no_stage, AreInReach, Rises, StageAhead}
use Rattle.first_best.specs.Uses.{IsOfUse, IsWanted, KeepsWanted}

-- stages stand last stage first, behind an empty one
abbrev pub stage_of : List StageAhead → ℕ → StageAhead
stage_of stages stage = slice_index_or stages (length stages - stage) no_stage

-- the pairs of the window at a place of a stage
abbrev pub pairs_of : List StageAhead → ℕ → ℕ → List Pair
pairs_of stages stage i = list_at (stage_of stages stage).lists (place_at (stage_of stages stage).places i)

-- these pairs complete the nodes of a stage: for each prefix of a node they are among its completing pairs, and each
-- completing pair that is wanted has one of these at least as late and at most as dear
pub record AreCompleted (p : Problem) (v : ℕ) (budget : Option ℕ) (stage : ℕ) (nodes : List EarlyNode)
    (lists : List (List Pair)) : Type 0 where
  pub are_nodes : AreNodesOf p stage nodes
  pub one_each : length lists ≡ length nodes
  pub kept : (j : ℕ) (rs : List ℕ) → j < length nodes → IsLegal p rs → length rs ≡ stage
      → IsPrefixOf rs (node_at nodes j)
      → KeepsWanted (IsCompletingPair p v rs) (IsWanted p budget rs) (λ q. InPairs q (list_at lists j))
  pub rising : (j : ℕ) → Rises (list_at lists j)
  pub in_reach : (j : ℕ) → AreInReach (length p.flights - stage) (list_at lists j)

-- behind a stage stands the next, and behind the last one without a node
abbrev pub IsBehind : Problem → ℕ → Option ℕ → ℕ → StageAhead → Type 0
IsBehind p v budget stage next = ((stage ≡ length p.flights) × (next ≡ no_stage))
    ⊎ ((stage < length p.flights) × AreCompleted p v budget (stage + 1) next.nodes next.lists)

-- ---- all stages

-- the stage may be asked for the window at a place
pub record HasList (stages : List StageAhead) (stage i : ℕ) : Type 0 where
  pub from_one : 1 ≤ stage
  pub to_last : stage < length stages
  pub place : i < length (stage_of stages stage).places
  pub list : place_at (stage_of stages stage).places i < length (stage_of stages stage).lists

-- of each stage of the problem that is held these are the nodes, with the pairs that complete them, of which some are
-- wanted
pub record IsAheadBy (p : Problem) (v : ℕ) (budget : Option ℕ) (held : Option HeldProblem)
    (stages : List StageAhead) : Type 0 where
  pub whole : length stages ≡ length p.flights + 1
  pub completed : (s : ℕ) → 1 ≤ s → s ≤ length p.flights
      → AreCompleted p v budget s (stage_of stages s).nodes (stage_of stages s).lists
  pub gathered : (s : ℕ) → 1 ≤ s → s ≤ length p.flights
      → IsGathered held s (stage_of stages s).nodes (stage_of stages s).places

-- all of them are wanted
abbrev pub IsAheadOf : Problem → ℕ → Option HeldProblem → List StageAhead → Type 0
IsAheadOf p v held stages = IsAheadBy p v None held stages

-- those of use are wanted, within what the value leaves to delays
abbrev pub IsAheadWithin : Problem → ℕ → Option HeldProblem → List StageAhead → Type 0
IsAheadWithin p v held stages = IsAheadBy p v (Some (budget_of p v)) held stages

-- the pairs of the window of a landed prefix are exactly the undominated ones that complete its node, ascending in both
pub record IsExact (p : Problem) (v : ℕ) (held : Option HeldProblem) (stages : List StageAhead)
    (s i : ℕ) (xs : List Landing) : Type 0 where
  pub undominated : (q : Pair) → InPairs q (pairs_of stages s i)
      ↔ UndominatedCompleting (IsCompletingPair p v (ranks xs)) q
  pub rising : Rises (pairs_of stages s i)

abbrev pub ListsAllCompleting : Problem → ℕ → Option HeldProblem → List StageAhead → Type 0
ListsAllCompleting p v held stages =
    (s i : ℕ) (xs : List Landing) → 1 ≤ s → s ≤ length p.flights → i < length (stage_in held s).1
    → IsLandedPrefix p s xs → node_of p.k (ranks xs) ≡ (s, window_in held s i) → IsExact p v held stages s i xs

-- the pairs of the window of a landed prefix complete its node, ascending in both, and each that does and is of use has
-- one of these at least as late and at most as dear
pub record HasAllOfUse (p : Problem) (v : ℕ) (stages : List StageAhead) (s i : ℕ) (xs : List Landing) : Type 0 where
  pub kept : KeepsWanted (IsCompletingPair p v (ranks xs)) (IsOfUse p (budget_of p v) (ranks xs))
      (λ q. InPairs q (pairs_of stages s i))
  pub rising : Rises (pairs_of stages s i)

abbrev pub ListsAllOfUse : Problem → ℕ → Option HeldProblem → List StageAhead → Type 0
ListsAllOfUse p v held stages =
    (s i : ℕ) (xs : List Landing) → 1 ≤ s → s ≤ length p.flights → i < length (stage_in held s).1
    → IsLandedPrefix p s xs → node_of p.k (ranks xs) ≡ (s, window_in held s i) → HasAllOfUse p v stages s i xs

-- each window of the stages held has a list
abbrev pub HasEachList : Problem → Option HeldProblem → List StageAhead → Type 0
HasEachList p held stages = (s i : ℕ) → 1 ≤ s → s ≤ length p.flights → i < length (stage_in held s).1
    → HasList stages s i
