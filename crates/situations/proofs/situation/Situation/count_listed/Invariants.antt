use Rattle.situations.specs.Named.{with_count}
use Rattle.situations.specs.Opened.{counts_in}
use Rattle.situations.proofs.Named.{IsAsFrom}
use Rattle.situations.proofs.situation.Situation.count_listed.Given as goal

abbrev pub invariant-loop-i : goal.invariant-loop-i
invariant-loop-i l = IsAsFrom with_count counts_in l.entries l.fn.self l.i l.self
