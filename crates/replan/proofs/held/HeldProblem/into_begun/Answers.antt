use Rattle.std.proofs.Common.{rules}
use Rattle.std.proofs.Common.{ap, arith}
use Rattle.replan.proofs.StageLemmas.{fits_in_common, due_after_common}
use Rattle.replan.proofs.held.HeldProblem.into_begun.Goals as goal

pub returns-then-count-gt1-clause-few : goal.returns-then-count-gt1-clause-few
returns-then-count-gt1-clause-few g c = search (rules, fits_in_common)

pub returns-then-count-gt1-clause-due : goal.returns-then-count-gt1-clause-due
returns-then-count-gt1-clause-due g c = rw (← ap (λ h. h.problem) c.self.view_is)
    (due_after_common _ _ _ _ c.common-count.ensures (omega arith) (λ more. omega arith))

pub returns-clause-due : goal.returns-clause-due
returns-clause-due g c = rw (← ap (λ h. h.problem) c.self.view_is) (due_after_common _ _ _ _ c.common-count.ensures
    (omega (arith, c.if-count-gt1.false, c.in_ok-put_first.ensures.one))
    (λ more. absurd (omega (arith, more, c.in_ok-put_first.ensures.one))))
