use Rattle.std.proofs.Common.{rules}
use Rattle.delay_labels.proofs.StoredLists.{lists_in_days}
use Rattle.delay_labels.proofs.costs.Costs.len.Goals as goal

pub returns-clause-in_days : goal.returns-clause-in_days
returns-clause-in_days c = search (rules, lists_in_days)
