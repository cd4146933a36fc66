-- A position network over any kind of node: what may come next, what a node attains, and what of it is kept.
use Rattle.std.specs.Prelude.{◌≡◌, ℕ, List, [], ◌∷◌}
use Rattle.cps_theory.specs.Separation.{Landing}
use Rattle.cps_theory.specs.LandingTrail.{Landed, last_rank, pair_of, ranks}
use Rattle.cps_theory.specs.Labels.{NoWorse, Pair}

-- a node says which ranks may come next, and which of them came last
pub record Network (W : Type 0) (Legal : List ℕ → Type 0) (node : List ℕ → W) (Permitted : W
    → ℕ → Type 0) (push : W → ℕ → W) (newest : W → ℕ) : Type 0 where
  pub empty : Legal []
  pub grows : (r : ℕ) (rs : List ℕ) → Legal rs → Permitted (node rs) r → Legal (r ∷ rs)
  pub shrinks : (r : ℕ) (rs : List ℕ) → Legal (r ∷ rs) → Legal rs × Permitted (node rs) r
  pub pushes : (r : ℕ) (rs : List ℕ) → Legal rs → node (r ∷ rs) ≡ push (node rs) r
  pub newest_is : (rs : List ℕ) → Legal rs → newest (node rs) ≡ last_rank rs

-- a legal prefix of this node lands with this last second and this cost
pub record Attained {W : Type 0} (Open : ℕ → ℕ → Type 0) (after : ℕ → ℕ → ℕ → ℕ) (cost : ℕ
    → ℕ → ℕ) (Legal : List ℕ → Type 0) (node : List ℕ → W) (w : W) (p : Pair) : Type 0 where
  pub landings : List Landing
  pub legal : Legal (ranks landings)
  pub landed : Landed Open after landings
  pub at : node (ranks landings) ≡ w
  pub is : pair_of cost landings ≡ p

-- the kept pairs of a node: each is attained, and each attained one has a kept one no later and no dearer
pub record Kept (Attains Keeps : Pair → Type 0) : Type 0 where
  pub attained : (p : Pair) → Keeps p → Attains p
  pub covers : (q : Pair) → Attains q → (p : Pair) × Keeps p × NoWorse p q

-- of no two attained pairs is this one the worse
pub record Undominated (Attains : Pair → Type 0) (p : Pair) : Type 0 where
  pub attained : Attains p
  pub best : (q : Pair) → Attains q → NoWorse q p → q ≡ p
