use Rattle.text_bounds.specs.shared.Blocks.{plan_short}
use Rattle.text_bounds.proofs.laws.plan_blocks_are_bounded.Goals as goal

pub returns : goal.returns
returns c = plan_short c.printed_plans_read_back.ensures.shown
