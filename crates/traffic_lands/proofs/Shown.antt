-- Where a schedule is feasible in the opening situation, an opening state shows a plan.
use Rattle.std.proofs.Common.{arith}
use Rattle.traffic_lands.specs.Landing.{TrafficLandsLaw, TrafficShowsPlanLaw}

pub shows : TrafficLandsLaw → TrafficShowsPlanLaw
shows law seed n k few state opens = let lands = law seed n k few in grind arith
