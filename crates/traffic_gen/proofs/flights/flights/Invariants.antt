use Rattle.std.proofs.Common.{◌≡◌, ◌+◌, ◌-◌, ◌*◌, ◌≤◌, ◌++◌}
use Rattle.traffic_gen.specs.Flights.{flights_from}
use Rattle.traffic_gen.proofs.flights.flights.Given as goal

-- the flights made, and those that the state still makes, are all of them
abbrev pub invariant-loop-made : goal.invariant-loop-made
invariant-loop-made l = record {
  all : l.flights.items ++ flights_from (l.fn.n - l.made)
      (l.made + 1) l.before l.state ≡ flights_from l.fn.n 1 3600 l.fn.seed;
  before : l.before ≤ 3600 + 119 * l.made;
}
