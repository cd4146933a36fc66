-- Landing a fixed order, each flight at its first open second that the landing before it allows.
use Rattle.std.specs.Prelude.{◌≡◌, ℕ, ◌≤◌, Option, Some}

-- `first r t` is the least second at or after `t` that is open for `r`, if there is one
pub record IsFirstOpen (Open : ℕ → ℕ → Type 0) (first : ℕ → ℕ → Option ℕ) : Type 0 where
  pub found : (r t u : ℕ) → first r t ≡ Some u → Open r u × (t ≤ u)
  pub least : (r t v : ℕ) → Open r v → t ≤ v → (u : ℕ) × (first r t ≡ Some u) × (u ≤ v)

-- `after l t r` is the earliest second at which `r` may land once `l` has landed at `t`; a later landing never makes it
-- earlier
pub record NeverEarlier (after : ℕ → ℕ → ℕ → ℕ) : Type 0 where
  pub mono : (l t u r : ℕ) → t ≤ u → after l t r ≤ after l u r
