use Rattle.inquiry_commands.proofs.FirstLaws.{first_short}
use Rattle.inquiry_commands.proofs.first_laws.first_texts_are_bounded.Goals as goal

pub returns : goal.returns
returns c = first_short c.plan_blocks_are_bounded.ensures c.first_plan_is_one.ensures.shown
