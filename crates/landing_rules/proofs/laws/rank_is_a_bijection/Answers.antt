use Rattle.landing_rules.specs.shared.Ranks.{ranks_are_bijective}
use Rattle.landing_rules.proofs.laws.rank_is_a_bijection.Goals as goal

pub returns : goal.returns
returns c = ranks_are_bijective
