use Rattle.std.proofs.Common.{arith}
use Rattle.cps_network.proofs.GroupLemmas.{rank_added}
use Rattle.cps_network.proofs.ahead.with_open.Goals as goal

pub returns-then-is_in_time : goal.returns-then-is_in_time
returns-then-is_in_time c j = rank_added _ _ _ _ _ _ _ (omega arith) (omega arith) (record {
  from_one = c.requires.rank.0;
  to_count = c.requires.rank.1;
  early = c.requires.reach.0;
  late = c.is_in_time.ensures.0 c.if-is_in_time.true;
})
