use Rattle.std.proofs.Common.{refl}
use Rattle.std.specs.Fmt.{digits}
use Rattle.landing_rules.proofs.examples.known_schedules_print.Goals as goal

pub returns-clause-pair : goal.returns-clause-pair
unfolding digits
returns-clause-pair c = refl
