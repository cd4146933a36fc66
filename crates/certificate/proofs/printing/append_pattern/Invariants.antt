-- What stands so far and what is to come are the text.
use Rattle.std.proofs.Common.{◌≡◌, ◌++◌, length, map}
use Rattle.certificate.specs.Spelling.{digit_text}
use Rattle.certificate.proofs.printing.append_pattern.Given as goal

abbrev pub invariant-loop-rest : goal.invariant-loop-rest
invariant-loop-rest l = l.into.items ++ map digit_text l.rest ≡ l.fn.into.items ++ map digit_text l.fn.pattern

abbrev pub decreases-loop-rest : goal.decreases-loop-rest
decreases-loop-rest l = length l.rest
