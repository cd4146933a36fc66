use Rattle.std.proofs.Common.{sym, subst}
use Rattle.cps_network.proofs.GroupLists.{AreGroupsUpto, more_groups}
use Rattle.cps_network.proofs.groups.groups_of.Goals as goal

pub loop-from-preserved : goal.loop-from-preserved
loop-from-preserved g c =
    let upto = AreGroupsUpto c.args.problem.now c.args.stage c.args.before.now in
    subst (λ groups. upto groups c.group_from-group.result.to) (sym c.in_ok-push.ensures.items)
    (more_groups _ _ _ _ _ (subst (upto c.loop-from.groups.items) (sym c.group_from-group.ensures.from)
    c.loop-from.invariant) c.group_from-group.ensures.group)

pub returns-clause-rising : goal.returns-clause-rising
returns-clause-rising g c = c.loop-from.invariant.rising
