use Rattle.std.proofs.Common.{ap, sym}
use Rattle.cps_network.specs.Permits.{IsNextOf}
use Rattle.cps_network.proofs.LayerLemmas.{next_at, candidates}
use Rattle.cps_network.proofs.next.next_stage.Goals as goal
use Rattle.cps_network.proofs.next.next_stage.Goals.{After-drop-groups-2}

next_is : (g : _) (c : After-drop-groups-2 g)
    → IsNextOf c.args.problem.now c.args.before.now.0 c.args.before.now.1 c.in_ok-stage.stage.1
next_is g c = next_at c.args.problem.now _ _ _ _ _ _ c.in_ok-gathered.ensures.exact c.number-2.ensures
    c.windows-earlier.ensures.windows (sym (ap (λ v. v.1) c.in_ok-stage.ensures))

pub returns-clause-exact : goal.returns-clause-exact
returns-clause-exact g c = next_is g c

pub returns-clause-candidates : goal.returns-clause-candidates
returns-clause-candidates g c = candidates c.args.problem.now c.args.before.now c.in_ok-stage.stage (next_is g c)
