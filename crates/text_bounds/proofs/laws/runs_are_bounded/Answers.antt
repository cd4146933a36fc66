use Rattle.text_bounds.specs.shared.Blocks.{plan_short}
use Rattle.text_bounds.specs.shared.Replays.{replay_short}
use Rattle.text_bounds.proofs.laws.runs_are_bounded.Goals as goal

pub returns : goal.returns
returns c = replay_short (plan_short c.printed_plans_read_back.ensures.shown) c.every_step_keeps_soundness.ensures.step
