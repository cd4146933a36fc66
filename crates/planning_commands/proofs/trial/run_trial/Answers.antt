use Rattle.openings.specs.shared.Finished.{finished}
use Rattle.planning_commands.proofs.trial.run_trial.Goals as goal

pub returns : goal.returns
returns g c = finished _ _ _ _ _ _ c.report_seed-report.ensures c.print_report.ensures
