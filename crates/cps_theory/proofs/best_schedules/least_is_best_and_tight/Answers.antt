use Rattle.cps_theory.specs.laws.TightMaps.{best_and_tight}
use Rattle.cps_theory.proofs.best_schedules.least_is_best_and_tight.Goals as goal

pub returns : goal.returns
returns c = best_and_tight
