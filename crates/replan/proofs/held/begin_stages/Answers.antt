use Rattle.std.proofs.Common.{rules}
use Rattle.std.proofs.Common.{ap, subst, sym, ◌∙◌}
use Rattle.cps_network.specs.shared.DueSteps.{due_with_none}
use Rattle.replan.specs.Stages.{AreHints}
use Rattle.replan.proofs.HintLemmas.{hints_of_stages}
use Rattle.replan.proofs.held.begin_stages.Goals as goal

pub returns-in_ok-stages-in-None-clause-due : goal.returns-in_ok-stages-in-None-clause-due
returns-in_ok-stages-in-None-clause-due g c = search (rules, due_with_none)

pub returns-in_ok-stages-in-Some-clause-due : goal.returns-in_ok-stages-in-Some-clause-due
returns-in_ok-stages-in-Some-clause-due g c = rw c.in-Some.is c.in_ok-stages-in-Some.ensures.due

pub invariant_of-hints : goal.invariant_of-hints
invariant_of-hints g c = subst (λ p. AreHints p c.in_ok-windows-in-Some.windows.items)
    (ap (λ h. h.problem) c.held.view_is ∙ sym c.in_ok-stages-in-Some.ensures.problem)
    (rw (c.in_ok-windows-in-Some.ensures, c.deref.ensures.value) (hints_of_stages _ _ c.held.invariant.held))
