use Rattle.text_bounds.specs.shared.Certificates.{certificate_short}
use Rattle.text_bounds.specs.shared.WholeCertificates.{loadable_short, whole_short}
use Rattle.text_bounds.proofs.laws.whole_certificates_are_bounded.Goals as goal

pub returns : goal.returns
returns c = search (whole_short, certificate_short, loadable_short)
