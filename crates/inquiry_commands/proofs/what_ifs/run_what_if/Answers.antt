use Rattle.openings.specs.shared.Finished.{finished}
use Rattle.inquiry_commands.proofs.what_ifs.run_what_if.Goals as goal

pub returns : goal.returns
returns g c = finished _ _ _ _ _ _ c.report_files-report.ensures c.print_report.ensures
