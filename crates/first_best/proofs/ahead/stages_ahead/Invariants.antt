use Rattle.replan.specs.Kept.{held_of}
use Rattle.replan.specs.WindowNodes.{AreNodesOfSome}
use Rattle.first_best.proofs.AheadLemmas.{IsAheadFrom}
use Rattle.first_best.proofs.ahead.stages_ahead.Given as goal

abbrev pub invariant-loop-done : goal.invariant-loop-done
invariant-loop-done l = IsAheadFrom l.problem l.value l.budget (held_of l.kept) l.done l.stages.items
    × AreNodesOfSome (held_of l.kept) l.windows
