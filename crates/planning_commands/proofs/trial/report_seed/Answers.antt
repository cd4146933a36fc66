use Rattle.std.proofs.Common.{sym, subst}
use Rattle.traffic_lands.specs.Landing.{ShowsPlan}
use Rattle.planning_commands.proofs.trial.report_seed.Goals as goal

pub report_traffic-requires-clause-lands : goal.report_traffic-requires-clause-lands
report_traffic-requires-clause-lands g c lifetimes outlives = subst ShowsPlan (sym c.in_ok-traffic.ensures.value)
    (c.traffic_can_land.ensures.shown c.args.numbers.seed c.args.numbers.n c.args.numbers.k c.requires.count.1)
