use Rattle.makespan_labels.specs.LabelPairs.{column_pairs}
use Rattle.replan.specs.WindowNodes.{AreInDays, AreLeastUpto}
use Rattle.replan.proofs.least_pairs.lower_to_labels.Given as goal

abbrev pub invariant-loop-i : goal.invariant-loop-i
invariant-loop-i l = AreLeastUpto (column_pairs l.column) l.nodes.places l.nodes.firsts l.i l.least × AreInDays l.least
