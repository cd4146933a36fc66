use Rattle.cps_theory.specs.laws.ClosedSets.{closed_nodes_cover}
use Rattle.cps_theory.specs.laws.LeastObjective.{next_later}
use Rattle.cps_theory.specs.laws.PatternNetwork.{pattern_network}
use Rattle.cps_theory.proofs.certificates.closed_certificate_covers.Goals as goal

pub returns : goal.returns
returns c = λ p cost sound dearer first opens lists cert. closed_nodes_cover _ _ _ _ opens (next_later p) dearer _ _ _
    _ _ _ (pattern_network _ (λ a r b. (sound.ranked a r b).0)) _ cert
