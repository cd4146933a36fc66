-- Where the windows that come after a stage come again after another, of the same problem or of one that differs
-- elsewhere.
use Rattle.std.specs.Prelude.{◌≡◌, ℕ, ℤ, ◌+◌, ◌-◌, ◌*◌, ◌<◌, ◌≤◌, ◌⊎◌, List, length, min}
use Rattle.precedence.specs.Pairs.{MustPrecede}
use Rattle.landing_rules.specs.Problem.{Problem}
use Rattle.cps_problem.specs.Seen.{passed_at}
use Rattle.cps_network.specs.Landable.{HoldsCandidates}
use Rattle.cps_network.specs.Lists.{IsAscending, AreWindows}
use Rattle.cps_network.specs.Permits.{IsNextOf}

-- the stage after a stage of a problem: exactly the windows that extend one of it by a permitted rank, none twice,
-- which are the candidates where it holds the landable ones
pub record IsStageAfter (p : Problem) (before after : ℕ × List (List ℤ)) : Type 0 where
  pub number : after.0 ≡ before.0 + 1
  pub ascending : IsAscending after.1
  pub exact : IsNextOf p before.0 before.1 after.1
  pub candidates : HoldsCandidates p before after

-- what comes next after windows of a stage of one problem comes next after the same windows of a stage of another
abbrev pub HaveSameNext : Problem → ℕ → Problem → ℕ → Type 0
HaveSameNext p a q b = (before after : List (List ℤ)) → AreWindows (2 * q.k + 1) before → IsNextOf p a before after
    → IsNextOf q b before after

-- stages of two problems of one k are as far from the first flight and from the last, where these are in reach of them
pub record AreAsFar (p : Problem) (a : ℕ) (q : Problem) (b : ℕ) : Type 0 where
  pub k : p.k ≡ q.k
  pub first : min a p.k ≡ min b q.k
  pub last : min (length p.flights - a) (p.k + 1) ≡ min (length q.flights - b) (q.k + 1)
  pub some : a < length p.flights
  pub some_other : b < length q.flights

-- a rank in reach of a stage of one problem and a rank of another problem are as far from a stage of each
pub record AreInReach (p : Problem) (a rank : ℕ) (q : Problem) (b other : ℕ) : Type 0 where
  pub as_far : rank + b ≡ other + a
  pub from_one : 1 ≤ rank
  pub to_count : rank ≤ length p.flights
  pub early : rank ≤ a + 1 + p.k
  pub late : a + 1 ≤ rank + p.k

-- a rank must land after the flight at a place, counted from the first that is not due by a stage
abbrev pub WaitsFor : Problem → ℕ → ℕ → ℕ → Type 0
WaitsFor p stage rank i = (first : ℕ) × (first + p.k ≡ stage + 1 + i) × MustPrecede p.pairs first rank

-- two ranks wait for the flight at a place alike
pub record WaitAlikeFor (p : Problem) (a rank : ℕ) (q : Problem) (b other place : ℕ) : Type 0 where
  pub on : WaitsFor p a rank place → WaitsFor q b other place
  pub back : WaitsFor q b other place → WaitsFor p a rank place

-- each flight that must land before a rank is due by a stage
abbrev pub IsReady : Problem → ℕ → ℕ → Type 0
IsReady p stage rank = (first : ℕ) → MustPrecede p.pairs first rank → first + p.k ≤ stage

-- or can have landed by then
abbrev pub WaitsNear : Problem → ℕ → ℕ → Type 0
WaitsNear p stage rank = (first : ℕ) → MustPrecede p.pairs first rank → first ≤ stage + p.k

-- a rank waits for the flights that the other waits for at most, counted from the stages, beside those that are due
abbrev pub WaitsForNoMore : Problem → ℕ → ℕ → Problem → ℕ → ℕ → Type 0
WaitsForNoMore p a rank q b other = (first : ℕ) → MustPrecede p.pairs first rank
    → (first + p.k ≤ a) ⊎ ((same : ℕ) × (same + a ≡ first + b) × MustPrecede q.pairs same other)

-- two ranks wait for the same flights, counted from the stages, and were passed as often
pub record WaitAlike (p : Problem) (a rank : ℕ) (q : Problem) (b other : ℕ) : Type 0 where
  pub passed : passed_at p rank ≡ passed_at q other
  pub no_more : WaitsForNoMore p a rank q b other
  pub no_less : WaitsForNoMore q b other p a rank

-- so do all ranks in reach of the stages
abbrev pub AllWaitAlike : Problem → ℕ → Problem → ℕ → Type 0
AllWaitAlike p a q b = (rank other : ℕ) → AreInReach p a rank q b other → WaitAlike p a rank q b other
