use Rattle.whatif.proofs.OneText.{outcomes_one}
use Rattle.whatif.proofs.laws.outcomes_are_one.Goals as goal

pub returns : goal.returns
returns c = outcomes_one
