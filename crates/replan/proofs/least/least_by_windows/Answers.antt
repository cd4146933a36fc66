use Rattle.std.proofs.Common.{rules, arith}
use Rattle.std.proofs.lemmas.Bool.{false≢true}
use Rattle.replan.proofs.least.least_by_windows.Goals as goal

pub loop-reached-init : goal.loop-reached-init
loop-reached-init g c =
    let s = c.in_ok-last.ensures in (s.held, s.number, λ whole. absurd (false≢true (rw s.unsaid at whole)))

pub advance-requires : goal.advance-requires
advance-requires g c =
    let i = c.loop-reached.invariant in
    let at = i.1 in (search rules, (search rules, (c.requires.width, (i.0, (omega arith, i.2)))))

pub loop-reached-preserved : goal.loop-reached-preserved
loop-reached-preserved g c =
    let s = c.in_ok-advance.ensures in
    let at = c.loop-reached.invariant.1 in
    (s.held, omega arith, s.whole)

pub least_of-requires : goal.least_of-requires
least_of-requires g c =
    let i = c.loop-reached.invariant in
    let at = i.1 in (search rules, (omega arith, i.0))
