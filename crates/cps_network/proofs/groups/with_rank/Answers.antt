use Rattle.std.proofs.Common.{arith}
use Rattle.cps_network.proofs.GroupLemmas.{rank_added}
use Rattle.cps_network.proofs.groups.with_rank.Goals as goal

pub returns-then-may_follow : goal.returns-then-may_follow
returns-then-may_follow g c j = rank_added _ _ _ _ _ _ _ (omega arith) (omega arith)
    (c.may_follow.ensures.0 c.if-may_follow.true)
