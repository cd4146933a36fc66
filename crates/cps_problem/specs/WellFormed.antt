-- What a problem is asked to be: numbers in their ranges, flights in first-come order with callsigns apart, and
-- pairs of their ranks.
use Rattle.std.specs.Prelude.{◌≢◌, ◌+◌, ◌*◌, ◌<◌, ◌≤◌, length, All, AllPairs, MatchOption, IsTrue, ⊤}
use Rattle.std.specs.List.{AllAdjacentBelow}
use Rattle.std.specs.Ordering.{nat_cmp, ordering_then, is_lt}
use Rattle.std.specs.Cmp.Lexicographic.{slice_cmp}
use Rattle.wake_table.specs.Table.{IsWakeTable}
use Rattle.cps_base.specs.Limits.{dearest_landing, greatest_k, greatest_value, greatest_weight, latest_horizon}
use Rattle.cps_base.specs.Limits.{most_waiting}
use Rattle.landing_rules.specs.Rules.{last_second}
use Rattle.landing_rules.specs.Problem.{Problem, Waiting, AreBetweenRanks}

-- first come, first served: by the estimate, and then by the bytes of the callsign
abbrev pub ComesBefore : Waiting → Waiting → Type 0
ComesBefore f g = IsTrue (is_lt (ordering_then (nat_cmp f.eta g.eta) (slice_cmp nat_cmp f.callsign g.callsign)))

pub record IsWellFormed (p : Problem) : Type 0 where
  pub table : IsWakeTable p.table
  pub few_places : p.k ≤ greatest_k
  pub few_flights : length p.flights ≤ most_waiting
  pub in_order : AllAdjacentBelow ComesBefore p.flights (length p.flights)
  pub callsigns : AllPairs (λ f g. f.callsign ≢ g.callsign) p.flights
  pub between_ranks : AreBetweenRanks (length p.flights) p.pairs
  pub last_before : MatchOption p.last ⊤ (λ l. l.0 < p.horizon)
  pub near_horizon : p.horizon ≤ latest_horizon
  pub estimates : All (λ f. f.eta ≤ last_second) p.flights
  pub weights : All (λ f. (1 ≤ f.weight) × (f.weight ≤ greatest_weight)) p.flights
  pub passed : All (λ f. f.passed ≤ p.k) p.flights
  -- also where each flight has weight 100 and lands 172,799 seconds late
  pub base : p.base + dearest_landing * length p.flights ≤ greatest_value

-- what is asked of the parts of a problem: all of this, but that its table is one, which the table's type keeps
abbrev pub CanBuild : Problem → Type 0
CanBuild p = IsWakeTable p.table → IsWellFormed p
