-- Pairs of a second and a cost, which is no worse than which, and the successor of a pair.
use Rattle.std.specs.Prelude.{Bool, ◌&&◌, nat_le, ◌≡◌, ℕ, ◌+◌, ◌≤◌, ◌⊎◌, List, [], ◌∷◌, Option, option_map}

-- a second and a cost
abbrev pub Pair : Type 0
Pair = ℕ × ℕ

-- no later and no dearer
abbrev pub NoWorse : Pair → Pair → Type 0
NoWorse p q = (p.0 ≤ q.0) × (p.1 ≤ q.1)

-- the same as a test
abbrev pub no_worse : Pair → Pair → Bool
no_worse p q = nat_le p.0 q.0 && nat_le p.1 q.1

-- the successor of a pair whose last rank is `l`, by rank `r`
abbrev pub next_pair : (ℕ → ℕ → Option ℕ) → (ℕ → ℕ → ℕ → ℕ) → (ℕ → ℕ → ℕ) → ℕ → Pair → ℕ → Option Pair
next_pair first after cost l p r = option_map (λ t. (t, p.1 + cost r t)) (first r (after l p.0 r))

-- a later landing of one flight is no cheaper
pub record NeverCheaper (cost : ℕ → ℕ → ℕ) : Type 0 where
  pub mono : (r t u : ℕ) → t ≤ u → cost r t ≤ cost r u

-- the list has the pair
abbrev pub InPairs : Pair → List Pair → Type 0
InPairs p [] = ⊥
InPairs p (q ∷ qs) = (p ≡ q) ⊎ InPairs p qs
