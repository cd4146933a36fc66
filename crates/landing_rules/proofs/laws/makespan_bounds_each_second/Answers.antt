use Rattle.landing_rules.proofs.Costs.{second-le-greatest}
use Rattle.landing_rules.proofs.laws.makespan_bounds_each_second.Goals as goal

pub returns : goal.returns
returns c = second-le-greatest
