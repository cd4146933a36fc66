use Rattle.std.proofs.Common.{rules}
use Rattle.plan_text.proofs.Kept.{end_at}
use Rattle.plan_text.proofs.kept_text.end_of.Goals as goal

pub returns-else-count-eq0 : goal.returns-else-count-eq0
returns-else-count-eq0 c = search (rules, end_at)
