use Rattle.situations.specs.Named.{with_second}
use Rattle.situations.specs.Opened.{seconds_in}
use Rattle.situations.proofs.Named.{IsAsFrom}
use Rattle.situations.proofs.situation.Situation.freeze_listed.Given as goal

abbrev pub invariant-loop-i : goal.invariant-loop-i
invariant-loop-i l = IsAsFrom with_second seconds_in l.entries l.fn.self l.i l.self
