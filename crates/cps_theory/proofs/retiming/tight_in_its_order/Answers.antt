use Rattle.cps_theory.specs.laws.TightMaps.{tight_unique, tighten}
use Rattle.cps_theory.proofs.retiming.tight_in_its_order.Goals as goal

pub returns : goal.returns
returns c = record {
  tightens = tighten;
  unique = tight_unique;
}
