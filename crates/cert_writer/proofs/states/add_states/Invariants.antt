use Rattle.replan.specs.Kept.{held_of}
use Rattle.replan.specs.Readers.{stage_in, lists_in}
use Rattle.cert_writer.specs.StageEntries.{IsEntryOf}
use Rattle.cert_writer.specs.Written.{AreWrittenBelow}
use Rattle.cert_writer.proofs.states.add_states.Given as goal

abbrev pub invariant-loop-number : goal.invariant-loop-number
invariant-loop-number l = AreWrittenBelow l.problem.k
    (IsEntryOf l.problem (stage_in (held_of l.kept)) (lists_in (held_of l.kept))) l.stage l.number l.states.items
