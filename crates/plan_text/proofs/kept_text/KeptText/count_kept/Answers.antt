use Rattle.std.proofs.Common.{arith}
use Rattle.std.proofs.lemmas.List.{take-map}
use Rattle.plan_text.proofs.kept_text.KeptText.count_kept.Goals as goal

pub returns-clause-same : goal.returns-clause-same
returns-clause-same c = grind (arith, take-map)
