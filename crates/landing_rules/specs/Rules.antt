-- When a schedule keeps the rules, when it is best, and when it is tight.
-- After Balakrishnan and Chandran (2010) in outline: one landing second a flight, windows, separation by
-- leader and follower, precedence, at most k places from first-come order, and both objectives. This
-- project's own: whole seconds and their range, closures, ties by callsign, frozen landings, tightness.
use Rattle.std.specs.Prelude.{◌≡◌, ◌≢◌, ℕ, ◌+◌, ◌-◌, ◌*◌, ◌<◌, ◌≤◌, ◌↔◌, max, Bool, ◌&&◌, not, List, [], ◌∷◌, length}
use Rattle.std.specs.Prelude.{slice_index, nat_lt, nat_le, IsTrue, MatchOption, All, filter, map, count_by, sum_by}
use Rattle.std.specs.Prelude.{is_none}
use Rattle.std.specs.Str.{bytes_eq}
use Rattle.std.specs.List.{list_any, AllZip}
use Rattle.std.specs.declared.cmp.Ordering.{Ordering}
use Rattle.std.specs.Ordering.{nat_cmp, ordering_then, is_lt}
use Rattle.std.specs.Cmp.Lexicographic.{slice_cmp}
use Rattle.wake_table.specs.Table.{separation}
use Rattle.landing_rules.specs.declared.objective.Objective.{Objective}
use Rattle.landing_rules.specs.declared.objective.Objective.TheVariants.{Makespan, Delay}
use Rattle.landing_rules.specs.Flights.{Callsign, Span, Flight, Situation, Schedule, Landing, landings, horizon}

-- the last second of the two days that a schedule may use
abbrev pub last_second : ℕ
last_second = 172799

-- a window holds both of its ends; a closure holds its first second and not its end
abbrev pub is_within : ℕ → Span → Bool
is_within t window = nat_le window.0 t && nat_le t window.1

abbrev pub is_shut : ℕ → Span → Bool
is_shut t closure = nat_le closure.0 t && nat_lt t closure.1

-- a second is open for a flight if it lies in one of the flight's windows and in no closure
abbrev pub is_open : List Span → List Span → ℕ → Bool
is_open windows closures t = list_any (is_within t) windows && not (list_any (is_shut t) closures)

-- of two different flights, the later one lands at least the table's time after the earlier one
abbrev pub ArePairSeparated : List (List ℕ) → Landing → Landing → Type 0
ArePairSeparated table f g =
    f.flight.callsign ≢ g.flight.callsign → f.second ≤ g.second →
    f.second + separation table f.flight.category g.flight.category ≤ g.second

abbrev pub AreSeparated : List (List ℕ) → List Landing → Type 0
AreSeparated table all = All (λ f. All (ArePairSeparated table f) all) all

abbrev pub lists : Flight → Callsign → Bool
lists g c = list_any (λ d. bytes_eq d c) g.after

-- a flight lands after each active flight that it lists
abbrev pub IsPairInPrecedence : Landing → Landing → Type 0
IsPairInPrecedence f g = IsTrue (lists g.flight f.flight.callsign) → f.second < g.second

abbrev pub AreInPrecedence : List Landing → Type 0
AreInPrecedence all = All (λ f. All (IsPairInPrecedence f) all) all

-- first come, first served: by the estimate, and then by the bytes of the callsign
abbrev pub first_come_cmp : ℕ × Callsign → ℕ × Callsign → Ordering
first_come_cmp a b = ordering_then (nat_cmp a.0 b.0) (slice_cmp nat_cmp a.1 b.1)

abbrev pub arrival_cmp : Flight → Flight → Ordering
arrival_cmp f g = first_come_cmp (f.eta, f.callsign) (g.eta, g.callsign)

-- 1 plus the number of flights that come before f
abbrev pub rank : List Flight → Flight → ℕ
rank flights f = 1 + count_by (λ g. is_lt (arrival_cmp g f)) flights

-- 1 plus the number of flights that land before f
abbrev pub place : List Landing → Landing → ℕ
place all f = 1 + count_by (λ g. nat_lt g.second f.second) all

abbrev pub rank_among : List Landing → Landing → ℕ
rank_among all f = rank (map (λ g. g.flight) all) f.flight

-- no flight lands more than k places from its rank; each flight that passed it before leaves one place less for others
-- to pass it
abbrev pub IsShiftKept : ℕ → List Landing → Landing → Type 0
IsShiftKept k all f = (rank_among all f ≤ place all f + k) × (place all f + f.passed ≤ rank_among all f + k)

abbrev pub KeepsShift : ℕ → List Landing → Type 0
KeepsShift k all = All (IsShiftKept k all) all

abbrev pub waits : Landing → Bool
waits f = is_none f.frozen

-- a frozen flight keeps its second, and a waiting flight lands at the horizon or later
abbrev pub IsFrozenKept : ℕ → Landing → Type 0
IsFrozenKept h f = MatchOption f.frozen (h ≤ f.second) (λ t. f.second ≡ t)

-- the rules that a list of landings keeps
pub record KeepsRules (s : Situation) (all : List Landing) : Type 0 where
  pub in_days : All (λ f. f.second ≤ last_second) all
  pub open_seconds : All (λ f. IsTrue (is_open f.flight.windows s.closures f.second)) all
  pub separated : AreSeparated s.aerodrome.table all
  pub in_precedence : AreInPrecedence all
  pub shift : KeepsShift s.aerodrome.k (filter waits all)
  pub frozen_kept : All (IsFrozenKept (horizon s)) all

-- a schedule gives each active flight one second, and keeps the rules
abbrev pub IsFeasible : Situation → Schedule → Type 0
IsFeasible s t = (length t ≡ length s.active) × KeepsRules s (landings s.active t)

abbrev pub greatest : List ℕ → ℕ
greatest [] = 0
greatest (t ∷ ts) = max t (greatest ts)

-- what a landing costs: its delay after the estimate, by weight
abbrev pub delay : Landing → ℕ
delay f = f.flight.weight * (f.second - f.flight.eta)

abbrev pub cost : Objective → List Landing → ℕ
cost Makespan all = greatest (map (λ f. f.second) all)
cost Delay all = sum_by delay all

abbrev pub objective : Situation → Schedule → ℕ
objective s t = cost s.aerodrome.objective (landings s.active t)

-- no feasible schedule has a smaller objective
pub record IsBest (s : Situation) (t : Schedule) : Type 0 where
  pub feasible : IsFeasible s t
  pub least : (u : Schedule) → IsFeasible s u → objective s t ≤ objective s u

-- the flights land in the same order
abbrev pub HaveSameOrder : Schedule → Schedule → Type 0
HaveSameOrder t u = (i j : ℕ) → i < length t → j < length t → (slice_index t i < slice_index t j)
    ↔ (slice_index u i < slice_index u j)

-- no feasible schedule in the same order lands any flight earlier
pub record IsTight (s : Situation) (t : Schedule) : Type 0 where
  pub feasible : IsFeasible s t
  pub earliest : (u : Schedule) → IsFeasible s u → HaveSameOrder t u → AllZip (λ a b. a ≤ b) t u
