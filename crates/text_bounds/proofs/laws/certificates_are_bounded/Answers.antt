use Rattle.text_bounds.specs.shared.Certificates.{certificate_short}
use Rattle.text_bounds.proofs.laws.certificates_are_bounded.Goals as goal

pub returns : goal.returns
returns c = certificate_short
