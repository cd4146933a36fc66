use Rattle.cps_theory.specs.laws.FirstBestExists.{first_best_exists}
use Rattle.cps_theory.proofs.best_schedules.feasible_has_first_best.Goals as goal

pub returns : goal.returns
returns c = first_best_exists
