use Rattle.cps_theory.specs.laws.FrozenFront.{few_above}
use Rattle.cps_theory.proofs.freezing.few_later_ranks_land_before.Goals as goal

pub returns : goal.returns
returns c = few_above
