use Rattle.planning_commands.proofs.TextLengths.{effort_text_short, plan_text_short, replay_text_short}
use Rattle.planning_commands.proofs.TextLengths.{trial_text_short}
use Rattle.planning_commands.proofs.text_lengths.planning_texts_are_bounded.Goals as goal

pub returns : goal.returns
returns c = record {
  plan = plan_text_short c.plan_blocks_are_bounded.ensures;
  replay = replay_text_short c.runs_are_bounded.ensures;
  effort = effort_text_short c.plan_blocks_are_bounded.ensures c.every_step_keeps_soundness.ensures.step;
  trial = trial_text_short c.trial_summaries_are_bounded.ensures c.printed_plans_read_back.ensures.shown;
}
