-- What stands so far and what is to come are the text; those that are left are callsigns, so all are.
use Rattle.std.proofs.Common.{◌≡◌, ◌++◌, length}
use Rattle.flight_file.specs.Printed.{names_text}
use Rattle.flight_file.specs.Kept.{AreCallsigns}
use Rattle.flight_file.proofs.printing.append_names.Given as goal

abbrev pub invariant-loop-rest : goal.invariant-loop-rest
invariant-loop-rest l = (l.into.items ++ names_text l.rest ≡ l.fn.into.items ++ names_text l.fn.names)
    × (AreCallsigns l.rest → AreCallsigns l.fn.names)

abbrev pub decreases-loop-rest : goal.decreases-loop-rest
decreases-loop-rest l = length l.rest
