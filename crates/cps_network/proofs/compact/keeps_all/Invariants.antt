use Rattle.std.proofs.Common.{◌≡◌, true, take}
use Rattle.std.specs.Prelude.{replicate}
use Rattle.std.specs.Fn.{FnReturnsAt}
use Rattle.std.specs.List.{AllZip}
use Rattle.cps_network.proofs.compact.keeps_all.Given as goal

-- where no label so far was refused, each was accepted
abbrev pub invariant-loop-label : goal.invariant-loop-label
invariant-loop-label g l = l.all ≡ true → AllZip (FnReturnsAt g.F.Fn l.accepts) (take l.label-index l.labels.items)
    (replicate l.label-index true)
