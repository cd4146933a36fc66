use Rattle.landing_joint.proofs.Audit.{audit_law, shown_plan_is_clean}
use Rattle.landing_joint.proofs.laws.findings_are_whole.Goals as goal

pub returns : goal.returns
returns c = record { clean = audit_law; shown = shown_plan_is_clean }
