-- The first best schedule: of the best and tight ones, the one whose waiting flights land in the least order of ranks.
-- The same for lists of seconds by rank. This project's own.
use Rattle.std.specs.Prelude.{ℕ, ◌+◌, ◌-◌, List, [], ◌∷◌, slice_index, nat_lt, Option, IsTrue, MatchOption, filter}
use Rattle.std.specs.Prelude.{map, if◌then◌else◌}
use Rattle.std.specs.Ordering.{nat_cmp, is_le}
use Rattle.std.specs.Cmp.Lexicographic.{slice_cmp}
use Rattle.landing_rules.specs.Flights.{Situation, Schedule, landings, waiting}
use Rattle.landing_rules.specs.Rules.{rank, waits, IsFeasible, IsBest, IsTight}
use Rattle.landing_rules.specs.Events.{in_landing_order}
use Rattle.landing_rules.specs.Problem.{Problem, IsFeasibleList, IsBestList, IsTightList}

-- the first place at which the orders differ has the lesser rank in a, if there is one
abbrev pub ComesNoLater : List ℕ → List ℕ → Type 0
ComesNoLater a b = IsTrue (is_le (slice_cmp nat_cmp a b))

-- ---- schedules

-- the ranks of the waiting flights, in landing order
abbrev pub order_of : Situation → Schedule → List ℕ
order_of s t = map (λ f. rank (map (λ a. a.flight) (waiting s)) f.flight)
    (filter waits (in_landing_order (landings s.active t)))

-- best and tight, and no other such schedule lands in a lesser order of ranks
pub record IsFirstBest (s : Situation) (t : Schedule) : Type 0 where
  pub best : IsBest s t
  pub tight : IsTight s t
  pub first : (u : Schedule) → IsBest s u → IsTight s u → ComesNoLater (order_of s t) (order_of s u)

-- the first plan is the first best schedule, and is none exactly where no schedule is feasible
abbrev pub IsFirstPlan : Situation → Option Schedule → Type 0
IsFirstPlan s plan = MatchOption plan ((t : Schedule) → IsFeasible s t → ⊥) (λ t. IsFirstBest s t)

-- ---- lists of seconds by rank

-- ranks or other numbers, by these seconds
abbrev pub insert_by : (ℕ → ℕ) → ℕ → List ℕ → List ℕ
insert_by second r [] = r ∷ []
insert_by second r (q ∷ rest) = if nat_lt (second q) (second r) then q ∷ insert_by second r rest else r ∷ q ∷ rest

abbrev pub sorted_by : (ℕ → ℕ) → List ℕ → List ℕ
sorted_by second [] = []
sorted_by second (r ∷ rest) = insert_by second r (sorted_by second rest)

-- the second of a rank
abbrev pub second_at : Schedule → ℕ → ℕ
second_at t r = slice_index t (r - 1)

-- a rank for each of these seconds, from this one on
abbrev pub ranks_from : ℕ → List ℕ → List ℕ
ranks_from r [] = []
ranks_from r (u ∷ rest) = r ∷ ranks_from (r + 1) rest

-- the ranks in the order in which the list lands them
abbrev pub order_of_list : Schedule → List ℕ
order_of_list t = sorted_by (second_at t) (ranks_from 1 t)

pub record IsFirstBestList (p : Problem) (t : Schedule) : Type 0 where
  pub best : IsBestList p t
  pub tight : IsTightList p t
  pub first : (u : Schedule) → IsBestList p u → IsTightList p u → ComesNoLater (order_of_list t) (order_of_list u)

-- the same of lists
abbrev pub IsFirstList : Problem → Option Schedule → Type 0
IsFirstList p list = MatchOption list ((t : Schedule) → IsFeasibleList p t → ⊥) (λ t. IsFirstBestList p t)
