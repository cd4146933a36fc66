use Rattle.planning_commands.proofs.TextLaws.{effort_one}
use Rattle.planning_commands.proofs.text_laws.effort_text_is_one.Goals as goal

pub returns : goal.returns
returns c = effort_one c.steps_are_one.ensures
