use Rattle.cps_theory.specs.laws.PatternShape.{legal_is_shaped}
use Rattle.cps_theory.proofs.certificates.legal_prefixes_have_their_shape.Goals as goal

pub returns : goal.returns
returns c = legal_is_shaped
