use Rattle.std.proofs.Common.{rules, arith}
use Rattle.replan.proofs.stages.stage_after.Goals as goal

pub next_stage_again-requires : goal.next_stage_again-requires
next_stage_again-requires g c =
    (search rules, (c.requires.width, (c.requires.stage, c.requires.whole c.if-is_whole.true (omega arith))))
