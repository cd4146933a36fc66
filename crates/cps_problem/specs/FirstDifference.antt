-- Up to which rank two problems are the same for those who land early.
use Rattle.std.specs.Prelude.{◌≡◌, ℕ, ◌+◌, ◌<◌, ◌≤◌, ◌↔◌, IsTrue, length, slice_get}
use Rattle.precedence.specs.Pairs.{must_precede}
use Rattle.landing_rules.specs.Problem.{Problem}

-- the same separations, limit of shift, objective, horizon and last frozen landing
pub record HaveSameHead (p q : Problem) : Type 0 where
  pub table : p.table ≡ q.table
  pub k : p.k ≡ q.k
  pub objective : p.objective ≡ q.objective
  pub horizon : p.horizon ≡ q.horizon
  pub last : p.last ≡ q.last

-- the flights of the ranks below r are equal; at place i stands rank i + 1
abbrev pub HaveSameFlights : Problem → Problem → ℕ → Type 0
HaveSameFlights p q r = (i : ℕ) → i + 1 < r → slice_get p.flights i ≡ slice_get q.flights i

-- rank j has the same predecessors below r
abbrev pub HaveSameBelow : Problem → Problem → ℕ → ℕ → Type 0
HaveSameBelow p q r j = (i : ℕ) → 1 ≤ i → i < r → must_precede p.pairs i j ≡ must_precede q.pairs i j

-- rank j has a predecessor of rank r or above
abbrev pub HasPredecessorFrom : Problem → ℕ → ℕ → Type 0
HasPredecessorFrom p r j = (i : ℕ) × (r ≤ i) × IsTrue (must_precede p.pairs i j)

-- and so it is, and it has one of rank r or above in both or in neither
pub record HaveSameAt (p q : Problem) (r j : ℕ) : Type 0 where
  pub below : HaveSameBelow p q r j
  pub from : HasPredecessorFrom p r j ↔ HasPredecessorFrom q r j

-- so it is with each rank below r
abbrev pub HaveSamePredecessors : Problem → Problem → ℕ → Type 0
HaveSamePredecessors p q r = (j : ℕ) → 1 ≤ j → j < r → HaveSameAt p q r j

-- two problems agree up to r
pub record AgreeUpTo (p q : Problem) (r : ℕ) : Type 0 where
  pub head : HaveSameHead p q
  pub flights : HaveSameFlights p q r
  pub predecessors : HaveSamePredecessors p q r

-- at most one above the smaller number of flights
abbrev pub IsWithinBoth : Problem → Problem → ℕ → Type 0
IsWithinBoth p q r = (r ≤ length p.flights + 1) × (r ≤ length q.flights + 1)

-- the greatest of these numbers, from 1 on, up to which two problems agree. Where their heads differ they agree up to
-- none, and it is 1
pub record IsFirstDifference (p q : Problem) (r : ℕ) : Type 0 where
  pub from_one : 1 ≤ r
  pub within : IsWithinBoth p q r
  pub agree : 1 < r → AgreeUpTo p q r
  pub greatest : (s : ℕ) → IsWithinBoth p q s → AgreeUpTo p q s → s ≤ r
