use Rattle.std.proofs.Common.{◌-◌, length}
use Rattle.cps_network.proofs.GroupLists.{AreGroupsUpto}
use Rattle.cps_network.proofs.groups.groups_of.Given as goal

abbrev pub invariant-loop-from : goal.invariant-loop-from
invariant-loop-from g l = AreGroupsUpto l.problem l.stage l.before l.groups.items l.from

abbrev pub decreases-loop-from : goal.decreases-loop-from
decreases-loop-from g l = length l.before - l.from
