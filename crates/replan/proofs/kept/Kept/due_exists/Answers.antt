use Rattle.std.proofs.Common.{sym, subst, ◌∙◌}
use Rattle.cps_problem.specs.FirstDifference.{IsFirstDifference}
use Rattle.replan.specs.Bound.{HasDue}
use Rattle.replan.specs.Held.{held_problem}
use Rattle.replan.proofs.DueExists.{due_alone, due_beside}
use Rattle.replan.proofs.kept.Kept.due_exists.Goals as goal

pub returns-in-None : goal.returns-in-None
returns-in-None g c = rw (sym c.self.view_is ∙ c.in-None.is) (due_alone _ c.counts_exist.ensures)

pub returns-in-Some : goal.returns-in-Some
returns-in-Some g c =
    subst (λ o. HasDue (held_problem o) c.args.problem.now) (sym (sym c.self.view_is ∙ c.in-Some.is))
    (due_beside _ _ _ c.counts_exist.ensures
    (subst (λ h. IsFirstDifference h.problem c.args.problem.now c.first_difference-difference.result)
    c.held.view_is c.first_difference-difference.ensures))
