use Rattle.replays.proofs.OneText.{steps_one}
use Rattle.replays.proofs.laws.steps_are_one.Goals as goal

pub returns : goal.returns
returns c = steps_one
