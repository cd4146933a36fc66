use Rattle.planning_commands.proofs.ReplayLaws.{printed_few_pass}
use Rattle.planning_commands.proofs.replay_laws.few_pass_in_a_printed_replay.Goals as goal

pub returns : goal.returns
returns c = printed_few_pass c.few_pass_a_waiting_flight.ensures.run
