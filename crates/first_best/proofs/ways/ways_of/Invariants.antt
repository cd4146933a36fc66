use Rattle.first_best.proofs.WayLemmas.{WaysUpto}
use Rattle.first_best.proofs.ways.ways_of.Given as goal

abbrev pub invariant-loop-j : goal.invariant-loop-j
invariant-loop-j l = WaysUpto l.node l.next.nodes l.j l.ways.items
