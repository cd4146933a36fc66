use Rattle.cps_theory.specs.laws.PatternNetwork.{pattern_network}
use Rattle.cps_theory.proofs.certificates.patterns_are_nodes.Goals as goal

pub returns : goal.returns
returns c = pattern_network
