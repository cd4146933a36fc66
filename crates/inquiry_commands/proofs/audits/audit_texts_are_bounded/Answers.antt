use Rattle.inquiry_commands.proofs.AuditTexts.{audit_short}
use Rattle.inquiry_commands.proofs.audits.audit_texts_are_bounded.Goals as goal

pub returns : goal.returns
returns c = audit_short
