use Rattle.replan.specs.Kept.{held_of}
use Rattle.replan.specs.Readers.{stage_in, lists_in}
use Rattle.replan.specs.WindowNodes.{AreNodesOfSome}
use Rattle.cert_writer.specs.StageEntries.{IsEntryOf}
use Rattle.cert_writer.specs.Written.{AreWrittenBelow}
use Rattle.cert_writer.proofs.states.states_of.Given as goal

abbrev pub invariant-loop-stage : goal.invariant-loop-stage
invariant-loop-stage l = AreWrittenBelow l.problem.k
    (IsEntryOf l.problem (stage_in (held_of l.kept)) (lists_in (held_of l.kept))) l.stage 0 l.states.items
    × AreNodesOfSome (held_of l.kept) l.windows
