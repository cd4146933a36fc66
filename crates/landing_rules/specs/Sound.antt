-- The situations that a run can reach: numbers in their ranges, callsigns of their shape and apart, and frozen landings
-- that keep the rules among themselves. This project's own.
use Rattle.std.specs.Prelude.{◌≡◌, ◌≢◌, ◌<◌, ◌≤◌, false, List, length, IsTrue, All, AllPairs}
use Rattle.wake_table.specs.Table.{IsWakeTable}
use Rattle.landing_rules.specs.Flights.{Active, Situation, Landing, waiting, horizon}
use Rattle.cps_base.specs.Limits.{most_closures, most_flights, most_waiting}
use Rattle.landing_rules.specs.Rules.{is_open, lists, AreSeparated, AreInPrecedence}
use Rattle.landing_rules.specs.Events.{State, IsPlanShown, frozen_landings}
pub use Rattle.landing_rules.specs.Events.{AreGoodWindows, IsGoodFlight, IsGoodEvent}

-- the flight lists no waiting flight
abbrev pub ListsNone : List Active → Landing → Type 0
ListsNone others f = All (λ a. lists f.flight a.flight.callsign ≡ false) others

pub record IsSound (s : Situation) : Type 0 where
  pub table : IsWakeTable s.aerodrome.table
  pub callsigns : AllPairs (λ a b. a.flight.callsign ≢ b.flight.callsign) s.active
  pub few_active : length s.active ≤ most_flights
  pub few_waiting : length (waiting s) ≤ most_waiting
  pub few_closures : length s.closures ≤ most_closures
  pub flights : All (λ a. IsGoodFlight a.flight) s.active
  pub passed : All (λ a. a.passed ≤ s.aerodrome.k) s.active
  pub no_carry : s.aerodrome.carry ≡ false → All (λ a. a.passed ≡ 0) s.active
  pub frozen_open : All (λ f. IsTrue (is_open f.flight.windows s.closures f.second)) (frozen_landings s)
  pub frozen_separated : AreSeparated s.aerodrome.table (frozen_landings s)
  pub frozen_in_precedence : AreInPrecedence (frozen_landings s)
  -- so without a clock second, where the horizon is 0, nothing is frozen
  pub frozen_before : All (λ f. f.second < horizon s) (frozen_landings s)
  pub frozen_alone : All (ListsNone (waiting s)) (frozen_landings s)

pub record IsSoundState (state : State) : Type 0 where
  pub situation : IsSound state.situation
  pub shown : IsPlanShown state.situation state.plan
