use Rattle.cps_top.proofs.Complete.{completes}
use Rattle.cps_top.proofs.Exact.{exact}
use Rattle.cps_top.proofs.Statuses.{asks}
use Rattle.cps_top.proofs.Sure.{is_sure}
use Rattle.cps_top.proofs.top.run.Goals as goal

pub returns-clause-asks : goal.returns-clause-asks
returns-clause-asks g c = asks _ _ _ _ c.work-ending.result c.status.ensures c.work-ending.ensures

pub returns-clause-completes : goal.returns-clause-completes
returns-clause-completes g c =
    completes _ _ _ c.status.result c.work-ending.result c.status.ensures c.work-ending.ensures

pub returns-clause-exact : goal.returns-clause-exact
returns-clause-exact g c = exact _ _ _ c.status.result c.work-ending.result c.status.ensures c.work-ending.ensures

pub returns-clause-sure : goal.returns-clause-sure
returns-clause-sure g c = is_sure
    c.texts_are_bounded.ensures _ _ _ c.status.result c.work-ending.result c.status.ensures c.work-ending.ensures

pub returns-clause-outcome : goal.returns-clause-outcome
returns-clause-outcome g c = record {
  ending = c.work-ending.result;
  status_is = c.status.ensures;
  ends = c.work-ending.ensures;
  says = c.say.ensures.says;
  quiet = c.say.ensures.quiet;
}
