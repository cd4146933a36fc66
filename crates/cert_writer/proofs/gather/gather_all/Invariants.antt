use Rattle.replan.specs.Kept.{held_of}
use Rattle.replan.specs.Readers.{stage_in, lists_in}
use Rattle.cert_writer.specs.Gathered.{AreGathered}
use Rattle.cert_writer.proofs.gather.gather_all.Given as goal

abbrev pub invariant-loop-i : goal.invariant-loop-i
invariant-loop-i l = AreGathered l.problem (stage_in (held_of l.kept) l.stage)
    (lists_in (held_of l.kept) l.stage) l.i l.pairs.items
