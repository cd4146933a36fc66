-- What stands so far and what is to come are the text.
use Rattle.std.proofs.Common.{◌≡◌, ◌++◌, length}
use Rattle.certificate.specs.Spelling.{state_lines}
use Rattle.certificate.proofs.printing.append_states.Given as goal

abbrev pub invariant-loop-rest : goal.invariant-loop-rest
invariant-loop-rest l = l.into.items ++ state_lines l.rest ≡ l.fn.into.items ++ state_lines l.fn.states

abbrev pub decreases-loop-rest : goal.decreases-loop-rest
decreases-loop-rest l = length l.rest
