use Rattle.planning_commands.proofs.ReplayLaws.{printed_sound}
use Rattle.planning_commands.proofs.replay_laws.printed_states_are_sound.Goals as goal

pub returns : goal.returns
returns c = printed_sound c.every_step_keeps_soundness.ensures.run
