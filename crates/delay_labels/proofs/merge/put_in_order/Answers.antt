use Rattle.cps_network.specs.shared.PairLists.{sorted_in_order}
use Rattle.delay_labels.proofs.merge.put_in_order.Goals as goal

pub returns-clause-order : goal.returns-clause-order
returns-clause-order c = sorted_in_order c.sort_unstable.new.self.items c.sort_unstable.ensures.sorted
