-- Legal prefixes of landing orders, latest rank first: as a whole, step by step, and by places.
use Rattle.std.specs.Prelude.{◌≡◌, ℕ, suc, ◌+◌, ◌≤◌, ◌⊎◌, List, [], ◌∷◌, length, Bool, true}
use Rattle.cps_theory.specs.RankLists.{In}

-- what the ranks are asked: how many there are, how far a flight may go forward, and back, and what must stand before
-- what
pub record OrderRules : Type 0 where
  pub count : ℕ
  pub most : ℕ
  pub back : ℕ → ℕ
  pub before : ℕ → ℕ → Bool

-- `r` may take the place behind these ranks, whatever comes later
pub record FitsBehind (g : OrderRules) (rs : List ℕ) (r : ℕ) : Type 0 where
  pub from_one : 1 ≤ r
  pub to_count : r ≤ g.count
  pub is_new : In r rs → ⊥
  pub not_early : r ≤ suc (length rs) + g.most
  pub not_late : suc (length rs) ≤ r + g.back r
  pub after : (a : ℕ) → g.before a r ≡ true → In a rs

-- each of the ranks fits behind those before it
abbrev pub EachFits : OrderRules → List ℕ → Type 0
EachFits g [] = Unit {0}
EachFits g (r ∷ rs) = FitsBehind g rs r × EachFits g rs

-- each rank that no later place could take is in
abbrev pub NoneDue : OrderRules → List ℕ → Type 0
NoneDue g rs = (x : ℕ) → 1 ≤ x → x + g.most ≤ length rs → In x rs

-- a legal prefix: different ranks from 1 to the count, each near its place and behind its predecessors, with no rank
-- left out that is due
pub record IsLegalPrefix (g : OrderRules) (rs : List ℕ) : Type 0 where
  pub placed : EachFits g rs
  pub none_due : NoneDue g rs

-- the same, step by step
pub record MayFollow (g : OrderRules) (rs : List ℕ) (r : ℕ) : Type 0 where
  pub fits : FitsBehind g rs r
  pub due : (x : ℕ) → 1 ≤ x → x + g.most ≡ suc (length rs) → In x (r ∷ rs)

-- each of the ranks may follow those before it
abbrev pub Legal : OrderRules → List ℕ → Type 0
Legal g [] = Unit {0}
Legal g (r ∷ rs) = MayFollow g rs r × Legal g rs

-- `r` may take the place after `p` places, by what is placed there
pub record MayCome (g : OrderRules) (p : ℕ) (Here : ℕ → Type 0) (r : ℕ) : Type 0 where
  pub from_one : 1 ≤ r
  pub to_count : r ≤ g.count
  pub is_new : Here r → ⊥
  pub not_early : r ≤ suc p + g.most
  pub not_late : suc p ≤ r + g.back r
  pub after : (a : ℕ) → 1 ≤ a → g.before a r ≡ true → Here a
  pub due : (x : ℕ) → 1 ≤ x → x + g.most ≡ suc p → (x ≡ r) ⊎ Here x
