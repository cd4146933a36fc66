use Rattle.landing_rules.proofs.BlockLaw.{block_law}
use Rattle.landing_rules.proofs.laws.block_tells_plan.Goals as goal

pub returns : goal.returns
returns c = block_law
