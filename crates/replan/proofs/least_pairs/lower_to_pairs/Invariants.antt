use Rattle.replan.specs.WindowNodes.{AreInDays, AreLeastUpto}
use Rattle.replan.proofs.least_pairs.lower_to_pairs.Given as goal

abbrev pub invariant-loop-i : goal.invariant-loop-i
invariant-loop-i l = AreLeastUpto l.labels.lists l.nodes.places l.nodes.firsts l.i l.least × AreInDays l.least
