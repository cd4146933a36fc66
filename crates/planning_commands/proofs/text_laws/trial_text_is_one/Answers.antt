use Rattle.planning_commands.proofs.TextLaws.{trial_one}
use Rattle.planning_commands.proofs.text_laws.trial_text_is_one.Goals as goal

pub returns : goal.returns
returns c = trial_one
