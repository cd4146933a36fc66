use Rattle.cps_theory.specs.laws.NodeOrder.{found_covers, non_decreasing}
use Rattle.cps_theory.proofs.certificates.states_in_order_are_found.Goals as goal

pub returns : goal.returns
returns g c = record {
  found = found_covers;
  rising = non_decreasing;
}
