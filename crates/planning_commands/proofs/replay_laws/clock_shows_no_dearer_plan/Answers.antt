use Rattle.planning_commands.proofs.ReplayLaws.{printed_no_dearer}
use Rattle.planning_commands.proofs.replay_laws.clock_shows_no_dearer_plan.Goals as goal

pub returns : goal.returns
returns c = printed_no_dearer c.clock_keeps_plans.ensures.shows c.every_step_keeps_soundness.ensures.step
