-- By what an accepted certificate means.
use Rattle.std.proofs.Common.{rules, sym, ◌∙◌}
use Rattle.cert_check.proofs.Accepted.{judged_optimal, judged_infeasible}
use Rattle.cert_check.proofs.judging.judge.Goals as goal

pub returns-clause-optimal : goal.returns-clause-optimal
returns-clause-optimal c = λ v e. judged_optimal _ _ c.head-head.ensures.well_formed v (sym c.decide.ensures ∙ e)

pub returns-clause-infeasible : goal.returns-clause-infeasible
returns-clause-infeasible c = search (rules, judged_infeasible)
