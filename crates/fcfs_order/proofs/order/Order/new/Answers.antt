use Rattle.std.proofs.Common.{arith, subst, sym}
use Rattle.std.specs.List.Sorted.{IsStrictlySortedBy}
use Rattle.fcfs_order.specs.Order.{IsOrder}
use Rattle.fcfs_order.proofs.order.Order.new.Goals as goal

pub invariant_of-result : goal.invariant_of-result
unfolding IsStrictlySortedBy
invariant_of-result c = subst IsOrder (sym c.new.ensures.items) (record { ascending = tt; few = omega arith })
