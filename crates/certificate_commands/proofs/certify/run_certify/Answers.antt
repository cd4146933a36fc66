use Rattle.openings.specs.shared.Finished.{finished}
use Rattle.certificate_commands.proofs.certify.run_certify.Goals as goal

pub returns : goal.returns
returns g c = finished _ _ _ _ _ _ c.report_files-report.ensures c.print_report.ensures
