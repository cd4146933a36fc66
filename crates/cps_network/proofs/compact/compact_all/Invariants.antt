use Rattle.std.proofs.Common.{List, take}
use Rattle.std.specs.Prelude.{Bool}
use Rattle.std.specs.Fn.{FnReturnsAt}
use Rattle.std.specs.List.{AllZip}
use Rattle.cps_network.proofs.CompactLemmas.{IsCompacting}
use Rattle.cps_network.proofs.compact.compact_all.Given as goal

abbrev pub invariant-loop-i : goal.invariant-loop-i
invariant-loop-i g l = (answers : List Bool) × AllZip (FnReturnsAt g.F.Fn l.keep) (take l.i l.fn.labels.items) answers
    × IsCompacting l.fn.labels.items l.labels.items answers l.kept l.i
    × IsCompacting l.fn.windows.items l.windows.items answers l.kept l.i
