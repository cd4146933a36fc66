-- What stands so far and what is to come are the text.
use Rattle.std.proofs.Common.{◌≡◌, ◌++◌, length}
use Rattle.certificate.specs.Spelling.{pairs_text}
use Rattle.certificate.proofs.printing.append_pairs.Given as goal

abbrev pub invariant-loop-rest : goal.invariant-loop-rest
invariant-loop-rest l = l.into.items ++ pairs_text l.rest ≡ l.fn.into.items ++ pairs_text l.fn.pairs

abbrev pub decreases-loop-rest : goal.decreases-loop-rest
decreases-loop-rest l = length l.rest
