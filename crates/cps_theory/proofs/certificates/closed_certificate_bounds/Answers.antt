use Rattle.std.proofs.Common.{zero-le}
use Rattle.cps_theory.specs.Labels.{InPairs}
use Rattle.cps_theory.specs.laws.LeastObjective.{closed_certificate_infeasible, closed_certificate_optimal}
use Rattle.cps_theory.proofs.certificates.closed_certificate_bounds.Goals as goal

pub returns : goal.returns
returns c = record {
  optimal = λ p cost sound dearer first opens lists cert value mono. closed_certificate_optimal
      p cost sound value mono first opens dearer (λ w q. InPairs q (lists w)) cert;
  infeasible = λ p cost sound dearer first opens lists cert. closed_certificate_infeasible p cost sound
      (λ q. 0) (λ a b l. zero-le) first opens dearer (λ w q. InPairs q (lists w)) cert;
}
