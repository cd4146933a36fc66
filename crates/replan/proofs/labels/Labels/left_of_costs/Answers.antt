use Rattle.std.proofs.Common.{sym}
use Rattle.replan.proofs.LabelsLemmas.{costs_left}
use Rattle.replan.proofs.labels.Labels.left_of_costs.Goals as goal

pub returns : goal.returns
returns g c = λ p delay each are. costs_left p _ _ c.keep_landable.ensures.number each _ _
    (sym delay) are c.keep_landable.ensures.landable c.keep_landable.ensures.windows
