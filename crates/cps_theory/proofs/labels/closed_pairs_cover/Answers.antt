use Rattle.cps_theory.specs.laws.LabelDominance.{closed_covers}
use Rattle.cps_theory.specs.laws.LeastObjective.{next_later}
use Rattle.cps_theory.proofs.labels.closed_pairs_cover.Goals as goal

pub returns : goal.returns
returns c = λ p cost dearer first opens lists closed. closed_covers _ _
    _ _ opens (next_later p) dearer _ (λ r rs l. l.1) _ closed
