-- Landing orders, as lists of ranks with the earliest first, and the seconds at which they land.
use Rattle.std.specs.Prelude.{◌≡◌, ℕ, ◌+◌, ◌<◌, ◌≤◌, List, length, get_or, reverse, Some, All, IsTrue}
use Rattle.landing_rules.specs.Flights.{Schedule}
use Rattle.landing_rules.specs.Problem.{Problem}
use Rattle.cps_theory.specs.RankLists.{of_rank, Distinct, IsRank}
use Rattle.cps_theory.specs.Feasible.{earliest, next_from, at_seconds}
use Rattle.landing_joint.specs.RankedProblem.{ranked, first_at, start_at, apart_at}

-- each of n ranks once
pub record IsWholeOrder (n : ℕ) (order : List ℕ) : Type 0 where
  pub whole : length order ≡ n
  pub ranks : All (IsRank n) order
  pub distinct : Distinct (reverse order)

-- Seconds by rank that land in this order: each is open, and not before the horizon and what the last frozen landing
-- allows; and of any two flights of the order the later one lands at least the separation after the earlier one.
pub record LandsInOrder (p : Problem) (order : List ℕ) (t : Schedule) : Type 0 where
  pub one_each : length t ≡ length p.flights
  pub open_seconds : (r : ℕ) → IsRank (length p.flights) r → IsTrue ((ranked p).is_open r (of_rank 0 t r))
  pub started : (r : ℕ) → IsRank (length p.flights) r → start_at p r ≤ of_rank 0 t r
  pub separated : (i j : ℕ) → i < j → j < length order →
      of_rank 0 t (get_or order i 0) + apart_at p (get_or order i 0) (get_or order j 0) ≤ of_rank 0 t (get_or order j 0)

-- each flight of the order at its first open second behind the one before it
abbrev pub EarliestInOrder : Problem → List ℕ → Schedule → Type 0
EarliestInOrder p order t =
    earliest (first_at p) (next_from (ranked p)) (reverse order) ≡ Some (at_seconds (of_rank 0 t) (reverse order))
