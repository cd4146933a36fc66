-- What stands so far and what is to come are the text.
use Rattle.std.proofs.Common.{◌≡◌, ◌++◌, length}
use Rattle.flight_file.specs.Printed.{windows_text}
use Rattle.flight_file.proofs.printing.append_windows.Given as goal

abbrev pub invariant-loop-rest : goal.invariant-loop-rest
invariant-loop-rest l = l.into.items ++ windows_text l.rest ≡ l.fn.into.items ++ windows_text l.fn.windows

abbrev pub decreases-loop-rest : goal.decreases-loop-rest
decreases-loop-rest l = length l.rest
