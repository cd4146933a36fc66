-- The first best schedule, and the landing trail that a loop of least choices builds.
use Rattle.std.specs.Prelude.{◌≡◌, ℕ, Bool, true, ◌<◌, ◌≤◌, List, [], ◌∷◌, Option}
use Rattle.cps_theory.specs.RankLists.{In, IsRank}
use Rattle.cps_theory.specs.Separation.{Landing}
use Rattle.cps_theory.specs.LandingTrail.{pair_of, ranks}
use Rattle.cps_theory.specs.Labels.{InPairs, Pair}
use Rattle.cps_theory.specs.LegalPrefix.{Legal}
use Rattle.cps_theory.specs.Patterns.{PatternNode, PatternPermits, pattern_newest, pattern_node, pattern_push}
use Rattle.cps_theory.specs.Feasible.{IsBest, RankedProblem, Tight, next_from}
use Rattle.cps_theory.specs.CompletingPairs.{Choice, Completes, KeptCompleting, NoGreaterOrder, Reached}

-- each lands before all that stand behind it
abbrev pub Ascends : (ℕ → ℕ) → List ℕ → Type 0
Ascends t [] = Unit {0}
Ascends t (x ∷ xs) = ((y : ℕ) → In y xs → t x < t y) × Ascends t xs

-- the ranks up to n, in the order in which they land
pub record InLandingOrder (n : ℕ) (t : ℕ → ℕ) (qs : List ℕ) : Type 0 where
  pub ranked : (x : ℕ) → In x qs → IsRank n x
  pub whole : (x : ℕ) → IsRank n x → In x qs
  pub ascends : Ascends t qs

-- best and tight, and no other such schedule lands in a smaller order of ranks
pub record FirstBest (p : RankedProblem) (value : (ℕ → ℕ) → ℕ) (t : ℕ → ℕ) : Type 0 where
  pub best : IsBest p value t
  pub tight : Tight p t
  pub least : (u : ℕ → ℕ) → IsBest p value u → Tight p u → (qs os : List ℕ) → InLandingOrder p.rules.count t qs
      → InLandingOrder p.rules.count u os → NoGreaterOrder qs os

-- the landings so far, latest first: each was the least choice behind those before it
abbrev pub BuiltByLeastChoices : (W : Type 0) → (ℕ → ℕ → Option ℕ) → (ℕ → ℕ → ℕ → ℕ) → (ℕ → ℕ → ℕ)
    → (List ℕ → W) → (W → ℕ → Type 0) → (W → ℕ → W) → (W → ℕ) → (W → Pair → Type 0) → ℕ → List Landing → Type 0
BuiltByLeastChoices W first after cost node Permitted push newest Keeps budget [] = Unit {0}
BuiltByLeastChoices W first after cost node Permitted push newest Keeps budget (x ∷ xs) =
    Choice W first after cost Permitted push newest Keeps budget (node (ranks xs)) (pair_of cost xs) x.0 x.1
    × ((q u : ℕ) → Choice W first after cost Permitted push newest Keeps budget (node (ranks xs))
    (pair_of cost xs) q u → x.0 ≤ q)
    × BuiltByLeastChoices W first after cost node Permitted push newest Keeps budget xs

-- a legal prefix of this pattern can land its last flight at b or before
abbrev pub ReachedIn : RankedProblem → PatternNode → ℕ → Type 0
ReachedIn p w b = Reached (λ r u. p.is_open r u ≡ true) (next_from p) (Legal p.rules) (pattern_node p.rules) w b

-- a pair that completes a node: a stage, the pattern of the placed ranks round it, and its latest rank
abbrev pub CompletesNode : RankedProblem → (ℕ → ℕ → ℕ) → (ℕ → Bool) → PatternNode → Pair → Type 0
CompletesNode p cost low w q = Completes PatternNode (λ x u. p.is_open x u ≡ true) (next_from p) cost
    (Legal p.rules) (pattern_node p.rules) (PatternPermits p.rules) (pattern_push p.rules) pattern_newest
    (λ z. z.0 ≡ p.rules.count) (λ t. low t ≡ true) w q

-- the lists of the nodes of legal prefixes are those of their completing pairs
abbrev pub ListsCompleting : RankedProblem → (ℕ → ℕ → ℕ) → (ℕ → Bool) → (PatternNode → List Pair) → Type 0
ListsCompleting p cost low lists = (rs : List ℕ) (r : ℕ) → Legal p.rules (r ∷ rs)
    → KeptCompleting (CompletesNode p cost low (pattern_node p.rules (r ∷ rs)))
    (λ q. InPairs q (lists (pattern_node p.rules (r ∷ rs))))

-- the landings of a problem so far, each the least choice by the completing pairs of the patterns
abbrev pub BuiltByNodes : RankedProblem → (ℕ → ℕ → Option ℕ) → (ℕ → ℕ → ℕ) → (PatternNode → List Pair)
    → ℕ → List Landing → Type 0
BuiltByNodes p first cost lists budget zs = BuiltByLeastChoices PatternNode first (next_from p) cost
    (pattern_node p.rules) (PatternPermits p.rules) (pattern_push p.rules) pattern_newest
    (λ w q. InPairs q (lists w)) budget zs
