use Rattle.std.proofs.Common.{ap}
use Rattle.replan.proofs.StageLemmas.{begins}
use Rattle.replan.proofs.stages.stage_zero.Goals as goal

pub returns-clause-held : goal.returns-clause-held
returns-clause-held g c = begins _ g.row.W _ _ _ c.requires.width c.in_ok-stage.ensures c.in_ok-labels.ensures
    (ap (λ p. p.objective) c.head.ensures.value)
