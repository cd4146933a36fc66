-- What the rules speak of: flights, the situation on the approach, schedules and landings.
-- This project's own words; the wake categories are those of RECAT-EU's form.
use Rattle.std.specs.Prelude.{ℕ, ◌+◌, Bool, List, Option, Some, None, is_none, filter, map, zip}
use Rattle.wake_table.specs.declared.category.Category.{Category}
use Rattle.landing_rules.specs.declared.objective.Objective.{Objective}

-- a flight's name on the frequency: 2 to 8 capital letters and digits, as their codes
abbrev pub Callsign : Type 0
Callsign = List ℕ

-- two seconds: of a window its first and its last; of a closure its first, and the first after it
abbrev pub Span : Type 0
Span = ℕ × ℕ

-- a flight, as a flight file or an event gives it. eta is its estimated second; after lists the
-- callsigns of the flights that it must follow
pub record Flight : Type 0 where
  pub callsign : Callsign
  pub category : Category
  pub eta : ℕ
  pub weight : ℕ
  pub windows : List Span
  pub after : List Callsign

-- a flight in the system: the second at which it is frozen, if it is, and, with the carry, how many flights behind it
-- in first-come order were frozen ahead of it, counted up to k
pub record Active : Type 0 where
  pub flight : Flight
  pub frozen : Option ℕ
  pub passed : ℕ

-- what an aerodrome fixes. k is the most places by which a flight may leave its first-come place;
-- freeze is how many seconds ahead of the clock the horizon lies; the table has a row for each leader, of
-- the seconds to each follower; carry says whether each waiting flight keeps a count of those that passed it
pub record Aerodrome : Type 0 where
  pub k : ℕ
  pub freeze : ℕ
  pub objective : Objective
  pub table : List (List ℕ)
  pub carry : Bool

-- the active flights in order of arrival in the system, the closures in order of their announcement,
-- and the last accepted second of the clock
pub record Situation : Type 0 where
  pub aerodrome : Aerodrome
  pub active : List Active
  pub closures : List Span
  pub clock : Option ℕ

-- a landing second for each active flight, in order of arrival in the system
abbrev pub Schedule : Type 0
Schedule = List ℕ

-- an active flight and the second at which a schedule lands it
pub record Landing : Type 0 where
  pub flight : Flight
  pub frozen : Option ℕ
  pub passed : ℕ
  pub second : ℕ

abbrev pub landing : Active → ℕ → Landing
landing a t = record { flight = a.flight; frozen = a.frozen; passed = a.passed; second = t }

-- the landings of a schedule
abbrev pub landings : List Active → Schedule → List Landing
landings active t = map (λ p. landing p.0 p.1) (zip active t)

-- a flight waits while it is not frozen
abbrev pub is_waiting : Active → Bool
is_waiting a = is_none a.frozen

abbrev pub waiting : Situation → List Active
waiting s = filter is_waiting s.active

-- the horizon: no waiting flight may land before it. Without a clock second it is 0
abbrev pub horizon_after : Option ℕ → ℕ → ℕ
horizon_after None freeze = 0
horizon_after (Some now) freeze = now + freeze

abbrev pub horizon : Situation → ℕ
horizon s = horizon_after s.clock s.aerodrome.freeze
