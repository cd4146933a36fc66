use Rattle.cps_theory.specs.laws.OrderLoops.{earliest_more, earliest_stops_at, front_more, seconds_more}
use Rattle.cps_theory.proofs.order_loops.one_more_of_an_order.Goals as goal

pub returns : goal.returns
returns c = record {
  front = front_more;
  lands = earliest_more;
  stops = earliest_stops_at;
  seconds = seconds_more;
}
