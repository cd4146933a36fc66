-- What two problems share on their ranks below d: the rules of their order, and open seconds, separation and cost; and
-- which stages count where d is their first difference.
use Rattle.std.specs.Prelude.{◌≡◌, ℕ, suc, ◌-◌, ◌<◌, ◌≤◌, Bool, true, ◌||◌, leb, ltb}
use Rattle.cps_theory.specs.LegalPrefix.{OrderRules}

-- two lists of rules agree below rank d
pub record AgreeBelow (d : ℕ) (g g' : OrderRules) : Type 0 where
  pub same_most : g.most ≡ g'.most
  pub there : d ≤ suc g'.count
  pub same_back : (r : ℕ) → r < d → g.back r ≡ g'.back r
  pub same_before : (a r : ℕ) → a < d → r < d → g'.before a r ≡ true → g.before a r ≡ true
  pub same_above : (a r : ℕ) → d ≤ a → r < d → g'.before a r ≡ true → (b : ℕ) × (d ≤ b) × (g.before b r ≡ true)

-- and so do what is open, what separates, and what landings cost
pub record SameLandings (d : ℕ) (Open Open' : ℕ → ℕ → Type 0) (after after' : ℕ → ℕ → ℕ → ℕ) (cost cost' : ℕ
    → ℕ → ℕ) : Type 0 where
  pub same_open : (r t : ℕ) → r < d → Open r t → Open' r t
  pub same_after : (l t r : ℕ) → l < d → r < d → after l t r ≡ after' l t r
  pub same_cost : (r t : ℕ) → r < d → cost r t ≡ cost' r t

-- a stage counts where it does not lie below d - k, or was not held: it is filled again
abbrev pub counts : ℕ → ℕ → ℕ → ℕ → Bool
counts d k m p = leb (d - k) p || ltb m p
