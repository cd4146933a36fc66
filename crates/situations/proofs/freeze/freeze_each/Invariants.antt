use Rattle.std.proofs.Common.{◌≡◌}
use Rattle.indexmap.specs.IndexMap.{keys, values}
use Rattle.situations.specs.Freezes.{frozen_one}
use Rattle.situations.proofs.Freezing.{turned}
use Rattle.situations.proofs.freeze.freeze_each.Given as goal

-- those below i are frozen as they should be, and the others are as they were
abbrev pub invariant-loop-i : goal.invariant-loop-i
invariant-loop-i l = record {
  flights : values l.active ≡ turned (frozen_one l.freeze) l.i (values l.fn.active) l.seconds;
  keys : keys l.active ≡ keys l.fn.active;
}
