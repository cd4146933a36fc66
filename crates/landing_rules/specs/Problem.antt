-- The problem of a situation: the waiting flights by rank, and what the frozen ones leave them. A list
-- of seconds by rank is feasible, best or tight for it as a schedule is for the situation.
-- This project's own form; the rules that it restates are those of Rules.antt.
use Rattle.std.specs.Prelude.{◌≡◌, ◌≢◌, ℕ, ◌+◌, ◌-◌, ◌*◌, ◌<◌, ◌≤◌, List, [], ◌∷◌, Option, Some, None, length}
use Rattle.std.specs.Prelude.{slice_get, slice_index, nat_lt, IsTrue, MatchOption, All, map, unwrap_or, count_by}
use Rattle.std.specs.Prelude.{sum_by, if◌then◌else◌, ⊤}
use Rattle.std.specs.List.{list_any, AllZip, AllAdjacentBelow, zip}
use Rattle.std.specs.Ordering.{is_lt}
use Rattle.wake_table.specs.declared.category.Category.{Category}
use Rattle.wake_table.specs.Table.{separation}
use Rattle.precedence.specs.Pairs.{must_precede}
use Rattle.landing_rules.specs.declared.objective.Objective.{Objective}
use Rattle.landing_rules.specs.declared.objective.Objective.TheVariants.{Makespan, Delay}
use Rattle.landing_rules.specs.Flights.{Callsign, Span, Active, Situation, Schedule, Landing, waiting, horizon}
use Rattle.landing_rules.specs.Rules.{is_within, is_open, lists, arrival_cmp, rank, greatest, cost, HaveSameOrder}
use Rattle.landing_rules.specs.Events.{in_landing_order, frozen_landings}

-- a waiting flight, with its open seconds as the longest spans of them, which hold both ends
pub record Waiting : Type 0 where
  pub callsign : Callsign
  pub category : Category
  pub eta : ℕ
  pub weight : ℕ
  pub passed : ℕ
  pub open_spans : List Span

-- the flights by rank, the first of rank 1. last is the frozen flight that lands last, by its second and
-- category; base is the delay of the frozen flights, and 0 for makespan; pairs says which ranks must land
-- before which
pub record Problem : Type 0 where
  pub table : List (List ℕ)
  pub k : ℕ
  pub objective : Objective
  pub horizon : ℕ
  pub last : Option (ℕ × Category)
  pub base : ℕ
  pub flights : List Waiting
  pub pairs : List ℕ

-- of each waiting flight, with its rank and its second
abbrev pub EachWaiting : Problem → Schedule → (ℕ → Waiting → ℕ → Type 0) → Type 0
EachWaiting p t P = (i : ℕ) (f : Waiting) → slice_get p.flights i ≡ Some f → P (i + 1) f (slice_index t i)

-- 1 plus the number of flights that land before this second
abbrev pub place_in : Schedule → ℕ → ℕ
place_in t second = 1 + count_by (λ u. nat_lt u second) t

-- a second for each rank, that keeps the rules
pub record IsFeasibleList (p : Problem) (t : Schedule) : Type 0 where
  pub one_each : length t ≡ length p.flights
  pub open_seconds : EachWaiting p t (λ r f a. IsTrue (list_any (is_within a) f.open_spans))
  -- each lands at the horizon or later
  pub late : EachWaiting p t (λ r f a. p.horizon ≤ a)
  pub after_last : EachWaiting p t (λ r f a. MatchOption p.last ⊤ (λ l. l.0 + separation p.table l.1 f.category ≤ a))
  pub separated : EachWaiting p t (λ r f a. EachWaiting p t (λ q g b. r ≢ q → a ≤ b
      → a + separation p.table f.category g.category ≤ b))
  pub in_precedence : EachWaiting p t (λ r f a. EachWaiting p t (λ q g b. IsTrue (must_precede p.pairs r q) → a < b))
  pub shift : EachWaiting p t (λ r f a. (r ≤ place_in t a + p.k) × (place_in t a + f.passed ≤ r + p.k))

abbrev pub list_delay : Waiting × ℕ → ℕ
list_delay f = f.0.weight * (f.1 - f.0.eta)

abbrev pub last_frozen : Option (ℕ × Category) → ℕ
last_frozen None = 0
last_frozen (Some l) = l.0

abbrev pub list_cost : Objective → Problem → Schedule → ℕ
list_cost Makespan p [] = last_frozen p.last
list_cost Makespan p (t ∷ ts) = greatest (t ∷ ts)
list_cost Delay p t = p.base + sum_by list_delay (zip p.flights t)

abbrev pub list_objective : Problem → Schedule → ℕ
list_objective p t = list_cost p.objective p t

pub record IsBestList (p : Problem) (t : Schedule) : Type 0 where
  pub feasible : IsFeasibleList p t
  pub least : (u : Schedule) → IsFeasibleList p u → list_objective p t ≤ list_objective p u

pub record IsTightList (p : Problem) (t : Schedule) : Type 0 where
  pub feasible : IsFeasibleList p t
  pub earliest : (u : Schedule) → IsFeasibleList p u → HaveSameOrder t u → AllZip (λ a b. a ≤ b) t u

-- ---- the problem of a situation

-- the waiting flights in first-come order
abbrev pub insert_by_rank : Active → List Active → List Active
insert_by_rank a [] = a ∷ []
insert_by_rank a (b ∷ rest) = if is_lt (arrival_cmp b.flight a.flight) then b ∷ insert_by_rank a rest else a ∷ b ∷ rest

abbrev pub by_rank : List Active → List Active
by_rank [] = []
by_rank (a ∷ rest) = insert_by_rank a (by_rank rest)

-- the longest spans of open seconds, in order
pub record AreOpenSpans (windows closures spans : List Span) : Type 0 where
  pub nonempty : All (λ w. w.0 ≤ w.1) spans
  pub apart : AllAdjacentBelow (λ v w. v.1 + 1 < w.0) spans (length spans)
  pub same : (t : ℕ) → list_any (is_within t) spans ≡ is_open windows closures t

pub record IsWaitingOf (closures : List Span) (a : Active) (w : Waiting) : Type 0 where
  pub callsign : w.callsign ≡ a.flight.callsign
  pub category : w.category ≡ a.flight.category
  pub eta : w.eta ≡ a.flight.eta
  pub weight : w.weight ≡ a.flight.weight
  pub passed : w.passed ≡ a.passed
  pub open_spans : AreOpenSpans a.flight.windows closures w.open_spans

-- the one that lands last
abbrev pub last_of : List Landing → Option (ℕ × Category)
last_of [] = None
last_of (f ∷ []) = Some (f.second, f.flight.category)
last_of (f ∷ g ∷ rest) = last_of (g ∷ rest)

abbrev pub frozen_cost : Objective → List Landing → ℕ
frozen_cost Makespan all = 0
frozen_cost Delay all = cost Delay all

-- rank i precedes rank j exactly where the flight of rank j lists the flight of rank i
abbrev pub ArePredecessorsOf : List Active → List ℕ → Type 0
ArePredecessorsOf ranked pairs = (i j : ℕ) (a b : Active) → slice_get ranked i ≡ Some a → slice_get ranked j ≡ Some b →
    must_precede pairs (i + 1) (j + 1) ≡ lists b.flight a.flight.callsign

-- and no pair is of a number that is no rank
abbrev pub AreBetweenRanks : ℕ → List ℕ → Type 0
AreBetweenRanks n pairs = (i j : ℕ) → IsTrue (must_precede pairs i j) → (1 ≤ i) × (i ≤ n) × (1 ≤ j) × (j ≤ n)

pub record IsProblemOf (s : Situation) (p : Problem) : Type 0 where
  pub table : p.table ≡ s.aerodrome.table
  pub k : p.k ≡ s.aerodrome.k
  pub objective : p.objective ≡ s.aerodrome.objective
  pub horizon : p.horizon ≡ horizon s
  pub last : p.last ≡ last_of (in_landing_order (frozen_landings s))
  pub base : p.base ≡ frozen_cost s.aerodrome.objective (frozen_landings s)
  pub flights : AllZip (IsWaitingOf s.closures) (by_rank (waiting s)) p.flights
  pub predecessors : ArePredecessorsOf (by_rank (waiting s)) p.pairs
  pub between_ranks : AreBetweenRanks (length p.flights) p.pairs

-- the frozen landings joined with a list of seconds by rank: a frozen flight lands at its own second, and a
-- waiting flight at the list's second for its rank among the waiting flights
abbrev pub joined_second : Situation → Schedule → Active → ℕ
joined_second s t a = unwrap_or a.frozen (slice_index t (rank (map (λ b. b.flight) (waiting s)) a.flight - 1))

abbrev pub joined : Situation → Schedule → Schedule
joined s t = map (joined_second s t) s.active
