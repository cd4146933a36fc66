use Rattle.replan.specs.Kept.{held_of}
use Rattle.replan.specs.Readers.{stage_in}
use Rattle.cert_writer.specs.Gathered.{HaveSlots}
use Rattle.cert_writer.proofs.gather.slots_of.Given as goal

abbrev pub invariant-loop-j : goal.invariant-loop-j
invariant-loop-j l = HaveSlots l.problem.k l.stage
    (stage_in (held_of l.kept) l.stage).1 l.windows.firsts l.j l.slots.items
