-- The flights that a file can give. Windows are good ones by their type, and callsigns by theirs.
use Rattle.std.specs.Prelude.{◌≢◌, ◌≤◌, ℕ, List, length, All, AllPairs}
use Rattle.cps_base.specs.Limits.{greatest_weight, most_flights}
use Rattle.landing_rules.specs.Rules.{last_second}
use Rattle.arrivals.specs.declared.flight.Flight.{Flight}

-- callsigns, none the flight's own and none twice
pub record AreOthers (own : List ℕ) (names : List (List ℕ)) : Type 0 where
  pub other : All (λ name. name ≢ own) names
  pub once : AllPairs (λ name later. name ≢ later) names

-- numbers in their ranges, and predecessors that are others and stand once
pub record IsArrival (f : Flight) : Type 0 where
  pub eta : f.eta ≤ last_second
  pub weight : (1 ≤ f.weight) × (f.weight ≤ greatest_weight)
  pub after : AreOthers f.callsign f.after

-- at most 500 of these, with different callsigns
pub record AreArrivals (fs : List Flight) : Type 0 where
  pub few : length fs ≤ most_flights
  pub flights : All IsArrival fs
  pub callsigns : AllPairs (λ f later. f.callsign ≢ later.callsign) fs
