-- A whole certificate is accepted.
use Rattle.cert_check.proofs.WholeVerdict.{whole_accepted}
use Rattle.cert_check.proofs.laws.whole_certificates_are_accepted.Goals as goal

pub returns : goal.returns
returns c = λ p cert well whole. whole_accepted p well cert whole
