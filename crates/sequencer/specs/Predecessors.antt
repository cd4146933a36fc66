-- Which ranks must land before which, among flights by rank.
use Rattle.std.specs.Prelude.{◌-◌, ◌≤◌, ℕ, List, IsTrue, length}
use Rattle.landing_rules.specs.Flights.{Active}
use Rattle.landing_rules.specs.Rules.{lists}
use Rattle.landing_joint.specs.Numbered.{numbered}

-- both are ranks, and the flight of rank j lists that of rank i
pub record IsListed (ranked : List Active) (i j : ℕ) : Type 0 where
  pub first : (1 ≤ i) × (i ≤ length ranked)
  pub next : (1 ≤ j) × (j ≤ length ranked)
  pub lists : IsTrue (lists (numbered ranked (j - 1)).flight (numbered ranked (i - 1)).flight.callsign)
