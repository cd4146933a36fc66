use Rattle.replan.proofs.DueExists.{counts_exist}
use Rattle.replan.proofs.bound.counts_exist.Goals as goal

pub returns : goal.returns
returns c = counts_exist _ c.head-near.ensures.well_formed c.windows_are_nodes.ensures
