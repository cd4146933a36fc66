use Rattle.openings.specs.shared.Finished.{finished}
use Rattle.inquiry_commands.proofs.audits.run_audit.Goals as goal

pub returns : goal.returns
returns g c = finished _ _ _ _ _ _ c.report_files-report.ensures c.print_report.ensures
