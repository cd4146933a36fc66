use Rattle.text_bounds.specs.shared.Trials.{trial_short}
use Rattle.text_bounds.proofs.laws.trial_summaries_are_bounded.Goals as goal

pub returns : goal.returns
returns c = trial_short
