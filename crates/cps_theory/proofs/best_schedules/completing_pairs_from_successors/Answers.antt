use Rattle.cps_theory.specs.Labels.{InPairs}
use Rattle.cps_theory.specs.laws.CompletingPairs.{completing_next}
use Rattle.cps_theory.specs.laws.FirstBest.{nodes_closed}
use Rattle.cps_theory.specs.laws.LeastObjective.{next_later}
use Rattle.cps_theory.specs.laws.PatternNetwork.{pattern_network}
use Rattle.cps_theory.proofs.best_schedules.completing_pairs_from_successors.Goals as goal

pub returns : goal.returns
returns c = λ p cost sound dearer first opens low lower lists w fresh not_last nexts made enough.
    completing_next _ _ _ _ _ _ _ _ _ _ opens
    (next_later p) dearer (pattern_network _ (λ a r b. (sound.ranked a r b).0)) _
    (nodes_closed p sound) _ lower (λ v q. InPairs q (lists v)) w _ not_last nexts made enough
