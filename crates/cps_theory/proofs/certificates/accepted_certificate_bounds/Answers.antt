use Rattle.cps_theory.specs.laws.CertificateSoundness.{accepted_infeasible, accepted_optimal}
use Rattle.cps_theory.proofs.certificates.accepted_certificate_bounds.Goals as goal

pub returns : goal.returns
returns g c = record {
  optimal = λ node_of pairs_of p cost sound first opens dearer states. accepted_optimal node_of
      pairs_of p cost sound first opens dearer states;
  infeasible = λ node_of pairs_of p cost sound first opens dearer states. accepted_infeasible
      node_of pairs_of p cost sound first opens dearer states;
}
