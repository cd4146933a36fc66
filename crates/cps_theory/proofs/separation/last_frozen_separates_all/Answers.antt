use Rattle.cps_theory.specs.laws.FrozenSeparation.{apart_parts, joined_apart}
use Rattle.cps_theory.proofs.separation.last_frozen_separates_all.Goals as goal

pub returns : goal.returns
returns c = record {
  joined = joined_apart;
  parts = apart_parts;
}
