-- Sets of pairs that are closed under successor pairs, listed for prefixes or for nodes.
use Rattle.std.specs.Prelude.{◌≡◌, ℕ, Option, Some, List, [], ◌∷◌}
use Rattle.cps_theory.specs.LandingTrail.{last_rank}
use Rattle.cps_theory.specs.Labels.{NoWorse, Pair, next_pair}

-- each pair that some successor gives has a listed one no later and no dearer, and the start is listed
pub record ClosedPairs (first : ℕ → ℕ → Option ℕ) (after : ℕ → ℕ → ℕ → ℕ) (cost : ℕ → ℕ → ℕ) (Legal : List ℕ
    → Type 0) (Listed : List ℕ → Pair → Type 0) : Type 0 where
  pub start : Listed [] (0, 0)
  pub step : (r : ℕ) (rs : List ℕ) → Legal (r ∷ rs) → (p q : Pair) → Listed rs p
      → next_pair first after cost (last_rank rs) p r ≡ Some q → (o : Pair) × Listed (r ∷ rs) o × NoWorse o q

-- the listed pairs are closed: each successor pair has a listed one, in the state that follows, that is no later and no
-- dearer
pub record ClosedNodes {W : Type 0} (first : ℕ → ℕ → Option ℕ) (after : ℕ → ℕ → ℕ → ℕ) (cost : ℕ
    → ℕ → ℕ) (Permitted : W → ℕ → Type 0) (push : W → ℕ → W) (newest : W → ℕ) (at_start : W) (Lists : W
    → Pair → Type 0) : Type 0 where
  pub start : Lists at_start (0, 0)
  pub step : (w : W) (r : ℕ) (p q : Pair) → Lists w p → Permitted w r
      → next_pair first after cost (newest w) p r ≡ Some q → (o : Pair) × Lists (push w r) o × NoWorse o q
