-- Landable windows, and the candidates of the next stage.
use Rattle.std.specs.Prelude.{◌≡◌, ℕ, ℤ, ◌↔◌, List, Contains, true}
use Rattle.cps_theory.specs.Feasible.{next_from}
use Rattle.cps_theory.specs.Labels.{Pair}
use Rattle.cps_theory.specs.LegalPrefix.{Legal}
use Rattle.cps_theory.specs.Network.{Attained}
use Rattle.landing_joint.specs.RankedProblem.{ranked, cost_at}
use Rattle.landing_rules.specs.Problem.{Problem}
use Rattle.cps_network.specs.Nodes.{node_of}
use Rattle.cps_network.specs.Permits.{IsSuccessor}

-- a window of a stage attains a pair of a second and a cost: a legal prefix ends in it whose flights can land at
-- seconds that are open and late enough one after another, the last of them this second, and what these landings cost
-- adds up to this cost
abbrev pub Attains : Problem → ℕ → List ℤ → Pair → Type 0
Attains p stage xs q = Attained (λ r u. (ranked p).is_open r u ≡ true) (next_from (ranked p))
    (cost_at p) (Legal (ranked p).rules) (node_of p.k) (stage, xs) q

-- a window of a stage is landable: it attains some pair
abbrev pub IsLandable : Problem → ℕ → List ℤ → Type 0
IsLandable p stage xs = (q : Pair) × Attains p stage xs q

-- these are the landable windows of a stage
abbrev pub HoldsLandable : Problem → ℕ × List (List ℤ) → Type 0
HoldsLandable p stage = (xs : List ℤ) → Contains stage.1 xs ↔ IsLandable p stage.0 xs

-- each landable window of a stage is among its windows
abbrev pub HasEachLandable : Problem → ℕ × List (List ℤ) → Type 0
HasEachLandable p stage = (xs : List ℤ) → IsLandable p stage.0 xs → Contains stage.1 xs

-- a candidate of the stage after one: a window that extends a landable window of that by a permitted rank
abbrev pub IsCandidate : Problem → ℕ → List ℤ → Type 0
IsCandidate p stage next = (xs : List ℤ) × IsLandable p stage xs × IsSuccessor p stage xs next

-- from the landable windows of a stage come exactly the candidates of the next
abbrev pub HoldsCandidates : Problem → ℕ × List (List ℤ) → ℕ × List (List ℤ) → Type 0
HoldsCandidates p before after = HoldsLandable p before → (next : List ℤ) → Contains after.1 next
    ↔ IsCandidate p before.0 next
