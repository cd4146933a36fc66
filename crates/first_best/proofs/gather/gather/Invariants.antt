use Rattle.replan.specs.Kept.{held_of}
use Rattle.replan.specs.Readers.{stage_in}
use Rattle.first_best.proofs.GatherLemmas.{AreMade}
use Rattle.first_best.proofs.gather.gather.Given as goal

abbrev pub invariant-loop-j : goal.invariant-loop-j
invariant-loop-j l = AreMade l.stage (stage_in (held_of l.kept) l.stage).1 l.windows.firsts
    l.least.items l.j l.nodes.items
