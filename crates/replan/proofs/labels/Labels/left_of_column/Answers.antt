use Rattle.replan.proofs.LabelsLemmas.{column_left}
use Rattle.replan.proofs.labels.Labels.left_of_column.Goals as goal

pub returns : goal.returns
returns g c = λ p makespan each are. column_left p _ _ c.keep_landable.ensures.number
    each _ _ makespan are c.keep_landable.ensures.landable c.keep_landable.ensures.windows
