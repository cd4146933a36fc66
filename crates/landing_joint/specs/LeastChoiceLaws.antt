-- Orders of least choices by completing pairs, and the completing pairs of a node from those of its successors.
use Rattle.std.specs.Prelude.{◌≡◌, ℕ, ◌<◌, ◌≤◌, List, ◌∷◌, length, ◌↔◌}
use Rattle.landing_rules.specs.Problem.{Problem}
use Rattle.landing_rules.specs.FirstBest.{IsFirstBestList}
use Rattle.cps_theory.specs.Separation.{Landing}
use Rattle.cps_theory.specs.LandingTrail.{latest_landing, ranks}
use Rattle.cps_theory.specs.ProblemNetwork.{LandedIn}
use Rattle.cps_theory.specs.Labels.{InPairs, Pair}
use Rattle.cps_theory.specs.CompletingPairs.{KeptCompleting, NoEarlierNoDearer, UndominatedCompleting}
use Rattle.landing_joint.specs.RankedProblem.{ranked}
use Rattle.landing_joint.specs.SoundProblem.{IsSoundProblem}
use Rattle.landing_joint.specs.CompletingPairs.{AreCompletingPairs, AreLeastChoices, AreOneNode, CanChoose, CanLandBy}
use Rattle.landing_joint.specs.CompletingPairs.{Cover, IsCompletingPair, IsLastPair, IsLeastObjective, IsLegal}
use Rattle.landing_joint.specs.CompletingPairs.{IsSuccessorPair, seconds_by_rank}

-- a whole trail of least choices lands as the first best list
abbrev pub LeastChoicesLaw : Type 0
LeastChoicesLaw = (p : Problem) (v : ℕ) (lists : List ℕ → List Pair) (xs : List Landing) → IsSoundProblem p
    → IsLeastObjective p v → AreCompletingPairs p v (λ rs q. InPairs q (lists rs))
    → AreLeastChoices p v (λ rs q. InPairs q (lists rs)) xs → length xs ≡ length p.flights
    → IsFirstBestList p (seconds_by_rank p xs)

-- and while it is not whole some rank can be chosen
abbrev pub ChoiceLaw : Type 0
ChoiceLaw = (p : Problem) (v : ℕ) (lists : List ℕ → List Pair) (xs : List Landing) → IsSoundProblem p
    → IsLeastObjective p v → AreCompletingPairs p v (λ rs q. InPairs q (lists rs))
    → AreLeastChoices p v (λ rs q. InPairs q (lists rs)) xs → length xs < length p.flights
    → (r : ℕ) × (t : ℕ) × CanChoose p v (λ rs q. InPairs q (lists rs)) xs r t

-- ---- the backward step

-- at the last stage the pairs of the last flight's open seconds complete a node
abbrev pub LastPairsLaw : Type 0
LastPairsLaw = (p : Problem) (v : ℕ) (rs : List ℕ) (pairs : List Pair) → IsSoundProblem p → IsLegal p rs
    → length rs ≡ length p.flights → Cover (IsLastPair p v rs) (λ q. InPairs q pairs)
    → KeptCompleting (IsCompletingPair p v rs) (λ q. InPairs q pairs)

-- before it those by the completing pairs of the nodes behind it, of which only such count that can land
abbrev pub SuccessorPairsLaw : Type 0
SuccessorPairsLaw = (p : Problem) (v : ℕ) (lists : List ℕ → List Pair) (rs : List ℕ) (pairs : List Pair)
    → IsSoundProblem p → IsLegal p rs → length rs < length p.flights
    → ((r b : ℕ) → IsLegal p (r ∷ rs) → CanLandBy p (r ∷ rs) b
    → KeptCompleting (IsCompletingPair p v (r ∷ rs)) (λ q. InPairs q (lists (r ∷ rs))))
    → Cover (IsSuccessorPair p v (λ os q. InPairs q (lists os)) rs) (λ q. InPairs q pairs)
    → KeptCompleting (IsCompletingPair p v rs) (λ q. InPairs q pairs)

-- prefixes of one node have the same completing pairs
abbrev pub OneNodeLaw : Type 0
OneNodeLaw = (p : Problem) (v : ℕ) (rs os : List ℕ) (q : Pair) → IsSoundProblem p → IsLegal p rs
    → IsLegal p os → AreOneNode rs os → IsCompletingPair p v rs q → IsCompletingPair p v os q

-- where a second is the earliest by which a node can land, it can land by that one and by each later one alone
abbrev pub EarliestOfNodeLaw : Type 0
EarliestOfNodeLaw = (p : Problem) (rs : List ℕ) (e b : ℕ) → CanLandBy p rs e
    → ((xs : List Landing) → IsLegal p (ranks xs) → LandedIn (ranked p) xs → AreOneNode (ranks xs) rs
    → e ≤ (latest_landing xs).1) → CanLandBy p rs b ↔ (e ≤ b)

-- completing pairs of which none is at least as late and at most as dear as another are the undominated ones
abbrev pub UndominatedPairsLaw : Type 0
UndominatedPairsLaw = (p : Problem) (v : ℕ) (rs : List ℕ) (pairs : List Pair)
    → KeptCompleting (IsCompletingPair p v rs) (λ q. InPairs q pairs)
    → ((q o : Pair) → InPairs q pairs → InPairs o pairs → NoEarlierNoDearer q o → q ≡ o) → (q : Pair)
    → InPairs q pairs ↔ UndominatedCompleting (IsCompletingPair p v rs) q
