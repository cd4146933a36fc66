-- The network of a ranked problem: what its nodes attain and keep, by window and by pattern, and a closed certificate
-- of it.
use Rattle.std.specs.Prelude.{◌≡◌, ℕ, ◌≤◌, List, [], Option, true}
use Rattle.cps_theory.specs.Separation.{Landing}
use Rattle.cps_theory.specs.Retiming.{IsFirstOpen}
use Rattle.cps_theory.specs.LandingTrail.{Landed}
use Rattle.cps_theory.specs.Labels.{InPairs, NoWorse, Pair}
use Rattle.cps_theory.specs.Patterns.{PatternNode, PatternPermits, pattern_newest, pattern_node, pattern_push}
use Rattle.cps_theory.specs.ClosedSets.{ClosedNodes}
use Rattle.cps_theory.specs.Feasible.{RankedProblem, next_from}

-- `first r t` is the first open second of rank r from t on
abbrev pub FindsFirstOpen : RankedProblem → (ℕ → ℕ → Option ℕ) → Type 0
FindsFirstOpen p first = IsFirstOpen (λ r u. p.is_open r u ≡ true) first

-- the landings, latest first, are each open and late enough after the one before
abbrev pub LandedIn : RankedProblem → List Landing → Type 0
LandedIn p xs = Landed (λ r u. p.is_open r u ≡ true) (next_from p) xs

-- the listed pairs are closed under successor pairs
abbrev pub IsClosedCertificate : RankedProblem → (ℕ → ℕ → Option ℕ) → (ℕ → ℕ → ℕ) → (PatternNode → List Pair) → Type 0
IsClosedCertificate p first cost lists = ClosedNodes first (next_from p) cost (PatternPermits p.rules)
    (pattern_push p.rules) pattern_newest (pattern_node p.rules []) (λ w q. InPairs q (lists w))

-- a value of pairs that no pair no worse exceeds
abbrev pub IsObjective : (Pair → ℕ) → Type 0
IsObjective value = (a b : Pair) → NoWorse a b → value a ≤ value b
