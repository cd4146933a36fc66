use Rattle.planning_commands.proofs.ReplayLaws.{printed_same}
use Rattle.planning_commands.proofs.replay_laws.text_fixes_the_replay.Goals as goal

pub returns : goal.returns
returns c = printed_same c.text_fixes_the_run.ensures
