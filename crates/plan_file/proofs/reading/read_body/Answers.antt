use Rattle.std.proofs.Common.{arith}
use Rattle.std.proofs.lemmas.Result.{err_from_is_err_and}
use Rattle.texts.specs.shared.Cuts.{has_part}
use Rattle.plan_file.proofs.BodyLines.{line_stop_all}
use Rattle.plan_file.proofs.reading.read_body.Goals as goal

pub returns-in_err-landing-clause-value : goal.returns-in_err-landing-clause-value
returns-in_err-landing-clause-value c = grind (arith, line_stop_all, has_part, err_from_is_err_and)
