use Rattle.cps_theory.specs.laws.LeastObjective.{feasible_landing_trail, landing_trail_feasible}
use Rattle.cps_theory.proofs.best_schedules.legal_landings_are_feasible.Goals as goal

pub returns : goal.returns
returns c = record {
  lands = feasible_landing_trail;
  feasible = landing_trail_feasible;
}
