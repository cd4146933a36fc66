use Rattle.std.proofs.Common.{◌≡◌}
use Rattle.std.specs.Prelude.{All}
use Rattle.delay_labels.specs.Bounds.{IsInDays}
use Rattle.delay_labels.specs.Lists.{successors_in}
use Rattle.delay_labels.proofs.merge.successors_of.Given as goal

abbrev pub invariant-loop-i : goal.invariant-loop-i
invariant-loop-i l = (l.found.items ≡ successors_in l.landings.problem l.last l.rank l.labels l.fn.range.0 l.i)
    × All IsInDays l.found.items
