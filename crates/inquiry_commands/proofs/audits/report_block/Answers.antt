use Rattle.std.proofs.Common.{List, map, ap, ◌∙◌}
use Rattle.audit.specs.Findings.{finding_of}
use Rattle.audit.specs.declared.finding.Finding.{Finding}
use Rattle.inquiry_commands.specs.Audit.{report}
use Rattle.inquiry_commands.proofs.AuditTexts.{ok_of_none}
use Rattle.inquiry_commands.proofs.audits.report_block.Goals as goal

pub returns-clause-clean : goal.returns-clause-clean
returns-clause-clean c =
    let prints = c.in_ok-report.ensures.text
    ∙ ap (λ (all : List Finding). report (map finding_of all)) c.deref.ensures.value in
    ok_of_none c.in_ok-found.found.items c.in_ok-report.report.text.items prints c.in_ok-found.ensures.clean
