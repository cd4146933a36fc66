use Rattle.std.proofs.Common.{◌≡◌, ◌+◌, ◌-◌, suc, arith}
use Rattle.traffic_gen.specs.Flights.{flight, flights_from, after_three}
use Rattle.traffic_gen.proofs.Arrivals.{one_more}
use Rattle.traffic_gen.proofs.flights.flights.Goals as goal

pub loop-made-preserved : goal.loop-made-preserved
unfolding flight
loop-made-preserved c =
    let number = c.loop-made.made + 1 in
    let before = c.loop-made.before in
    let x = c.loop-made.state in
    let left : c.args.n - c.loop-made.made ≡ suc (c.args.n - (c.loop-made.made + 1)) = omega arith in
    let more = one_more c.loop-made.flights.items (flights_from c.args.n 1 3600 c.args.seed)
    (c.args.n - c.loop-made.made)
    (c.args.n - (c.loop-made.made + 1)) number before x left c.loop-made.invariant.all in
    let state : c.next-state.result ≡ after_three x = cc in
    record {
      all = rw (c.in_ok-push.ensures.items, c.flight-flight.ensures.eta, c.flight-flight.ensures.value, state) more;
      before = let spaced = c.flight-flight.ensures.spacing in omega arith;
    }
