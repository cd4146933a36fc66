use Rattle.std.proofs.Common.{arith, rules, ◌≡◌, ◌++◌, List, Bool, false, take, drop, length, replicate}
use Rattle.std.proofs.lemmas.Grind.{common_steps}
use Rattle.std.proofs.Math.Seq.{take-append_seam}
use Rattle.certificate.proofs.pattern.Pattern.of.Goals as goal

front : (digits : List Bool) → take (length digits) (digits ++ drop (length digits) (replicate 6 false)) ≡ digits
front digits = take-append_seam digits _

pub invariant_of-result : goal.invariant_of-result
invariant_of-result c = grind (arith, common_steps)

pub returns : goal.returns
returns c = search (rules, front)
