use Rattle.std.proofs.Common.{◌≡◌, ◌<◌, ◌≤◌, length}
use Rattle.cps_network.specs.Pairs.{list_at}
use Rattle.replan.specs.Labels.{last_pair}
use Rattle.replan.specs.Stages.{stage_at}
use Rattle.replan.proofs.TraceLemmas.{Traced}
use Rattle.replan.proofs.trace.trace.Given as goal

abbrev pub invariant-loop-i : goal.invariant-loop-i
invariant-loop-i g l = (l.i ≤ length l.problem.flights) × (length l.order ≡ length l.problem.flights)
    × (l.place < length (stage_at l.kept l.i).stage.1)
    × (l.index < length (list_at (stage_at l.kept l.i).labels.lists l.place))
    × Traced l.problem l.kept l.i l.place l.index l.order
    (last_pair (list_at (stage_at l.kept (length l.problem.flights)).labels.lists l.fn.place))
