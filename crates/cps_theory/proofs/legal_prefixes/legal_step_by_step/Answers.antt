use Rattle.cps_theory.specs.laws.LegalPrefix.{legal_is_prefix}
use Rattle.cps_theory.proofs.legal_prefixes.legal_step_by_step.Goals as goal

pub returns : goal.returns
returns c = legal_is_prefix
