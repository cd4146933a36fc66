use Rattle.std.proofs.Common.{◌≡◌, ◌++◌, drop}
use Rattle.std.specs.Prelude.{All}
use Rattle.delay_labels.specs.Bounds.{IsInDays}
use Rattle.delay_labels.specs.Lists.{successors}
use Rattle.delay_labels.proofs.merge.add_successors.Given as goal

abbrev pub invariant-loop-pair : goal.invariant-loop-pair
invariant-loop-pair l = (l.into.items ++ successors l.landings.problem l.last l.rank (drop l.pair-index l.pairs)
    ≡ l.fn.into.items ++ successors l.landings.problem l.last l.rank l.pairs)
    × (All IsInDays l.fn.into.items → All IsInDays l.into.items)
