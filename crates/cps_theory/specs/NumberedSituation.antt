-- A situation whose flights are numbers: its feasible schedules over whole maps, a freeze of it, and its problem by
-- rank.
use Rattle.std.specs.Prelude.{◌≡◌, ◌≢◌, ℕ, ◌+◌, ◌<◌, ◌≤◌, List, ◌++◌, Bool, true, map, IsPermutation}
use Rattle.cps_theory.specs.RankLists.{Distinct, In, IsRank, upto}
use Rattle.cps_theory.specs.Feasible.{RankedProblem}
use Rattle.cps_theory.specs.Freeze.{FirstCome, KeepsCountedShift}

-- of any two of the list, whichever lands first
abbrev pub AllSeparated : (ℕ → ℕ → ℕ) → (ℕ → ℕ) → List ℕ → Type 0
AllSeparated s t fs = (f g : ℕ) → In f fs → In g fs → f ≢ g → t f ≤ t g → t f + s f g ≤ t g

-- flights are numbers here
pub record NumberedSituation : Type 0 where
  pub most : ℕ
  -- how far back each may go: `most` without a carry
  pub back : ℕ → ℕ
  pub horizon : ℕ
  pub frozen : List ℕ
  pub waiting : List ℕ
  pub frozen_at : ℕ → ℕ
  pub is_open : ℕ → ℕ → Bool
  pub apart : ℕ → ℕ → ℕ
  pub lists : ℕ → ℕ → Bool
  pub comes_before : ℕ → ℕ → Bool

-- all its flights, the frozen ones first
abbrev pub active : NumberedSituation → List ℕ
active s = s.frozen ++ s.waiting

-- feasible: the frozen flights keep their seconds, the waiting ones land from the horizon on and keep the shift rule,
-- all at open seconds, separated and in precedence
pub record FeasibleIn (s : NumberedSituation) (t : ℕ → ℕ) : Type 0 where
  pub kept : (f : ℕ) → In f s.frozen → t f ≡ s.frozen_at f
  pub behind : (f : ℕ) → In f s.waiting → s.horizon ≤ t f
  pub opened : (f : ℕ) → In f (active s) → s.is_open f (t f) ≡ true
  pub separated : AllSeparated s.apart t (active s)
  pub in_order : (f g : ℕ) → In f (active s) → In g (active s) → s.lists f g ≡ true → t f < t g
  pub shifted : (f : ℕ) → In f s.waiting → KeepsCountedShift s.most s.back s.comes_before t s.waiting f

-- what is asked of the situation alone
pub record SoundSituation (s : NumberedSituation) : Type 0 where
  pub triangle : (a b c : ℕ) → s.apart a c ≤ s.apart a b + s.apart b c
  pub order : FirstCome s.comes_before
  pub differ : Distinct s.waiting
  pub frozen_before : (f : ℕ) → In f s.frozen → s.frozen_at f < s.horizon
  pub frozen_open : (f : ℕ) → In f s.frozen → s.is_open f (s.frozen_at f) ≡ true
  pub frozen_apart : AllSeparated s.apart s.frozen_at s.frozen
  pub frozen_in_order : (f g : ℕ) → In f s.frozen → In g s.frozen → s.lists f g ≡ true → s.frozen_at f < s.frozen_at g
  pub none_listed : (f g : ℕ) → In f s.waiting → In g s.frozen → s.lists f g ≡ true → ⊥

-- the problem of the situation, by rank, where `at` tells the flight of a rank
pub record ProblemOf (s : NumberedSituation) (p : RankedProblem) (at : ℕ → ℕ) : Type 0 where
  pub most_is : p.rules.most ≡ s.most
  pub back_is : (r : ℕ) → p.rules.back r ≡ s.back (at r)
  pub open_is : (r u : ℕ) → p.is_open r u ≡ s.is_open (at r) u
  pub apart_is : (q r : ℕ) → p.apart q r ≡ s.apart (at q) (at r)
  pub before_is : (q r : ℕ) → IsRank p.rules.count q → IsRank p.rules.count r
      → p.rules.before q r ≡ s.lists (at q) (at r)
  -- the start is the horizon, and what the last frozen one allows
  pub start_low : (r t : ℕ) → p.start r ≤ t → (s.horizon ≤ t)
      × ((x : ℕ) → In x s.frozen → ((f : ℕ) → In f s.frozen → s.frozen_at f ≤ s.frozen_at x)
      → s.frozen_at x + s.apart x (at r) ≤ t)
  pub start_high : (r t : ℕ) → s.horizon ≤ t
      → ((x : ℕ) → In x s.frozen → ((f : ℕ) → In f s.frozen → s.frozen_at f ≤ s.frozen_at x)
      → s.frozen_at x + s.apart x (at r) ≤ t) → p.start r ≤ t
  -- the waiting flights by rank
  pub at_in : (r : ℕ) → IsRank p.rules.count r → In (at r) s.waiting
  pub at_all : (f : ℕ) → In f s.waiting → (r : ℕ) × IsRank p.rules.count r × (at r ≡ f)
  pub at_order : (q r : ℕ) → IsRank p.rules.count q → IsRank p.rules.count r → q < r
      → s.comes_before (at q) (at r) ≡ true
  pub permuted : IsPermutation (map at (upto p.rules.count)) s.waiting
