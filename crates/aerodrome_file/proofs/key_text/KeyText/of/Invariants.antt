-- The bytes so far, and zeros behind them.
use Rattle.std.proofs.Common.{◌≡◌, ◌++◌, ◌-◌, map, take, replicate}
use Rattle.aerodrome_file.specs.KeyText.{visible}
use Rattle.aerodrome_file.proofs.key_text.KeyText.of.Given as goal

abbrev pub invariant-loop-i : goal.invariant-loop-i
invariant-loop-i l = l.bytes ≡ map visible (take l.i l.key) ++ replicate (32 - l.i) 0
