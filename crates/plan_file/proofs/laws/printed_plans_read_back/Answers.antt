use Rattle.plan_file.proofs.ReadsBack.{plan_back, nothing_back}
use Rattle.plan_file.proofs.Readable.{shown_readable}
use Rattle.plan_file.proofs.laws.printed_plans_read_back.Goals as goal

pub returns : goal.returns
returns c = record { plan = plan_back; none = nothing_back; shown = shown_readable }
