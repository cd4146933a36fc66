use Rattle.std.proofs.Common.{◌≡◌, take}
use Rattle.situations.specs.Freezes.{freezing}
use Rattle.situations.proofs.freeze.freezing.Given as goal

-- those of the flights so far
abbrev pub invariant-loop-i : goal.invariant-loop-i
invariant-loop-i l = l.found.items ≡ freezing l.h (take l.i l.active) (take l.i l.seconds)
