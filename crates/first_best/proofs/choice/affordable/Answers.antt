use Rattle.std.proofs.Common.{sym, ◌∙◌, arith}
use Rattle.first_best.proofs.ChoiceLemmas.{never_in_time, too_dear}
use Rattle.first_best.proofs.choice.affordable.Goals as goal

pub returns-in_err-rest-clause-found : goal.returns-in_err-rest-clause-found
returns-in_err-rest-clause-found c = rw c.from_residual-in_err-rest.ensures
    (never_in_time _ _ _ _ _ _ _ (sym c.landing_after.ensures.value ∙ c.in_ok-second.was) c.in_err-rest.ensures)

pub returns-else-cost-from-clause-found : goal.returns-else-cost-from-clause-found
returns-else-cost-from-clause-found c =
    let price = c.cost.ensures.value in
    too_dear _ _ _ _ _ _ _ (sym c.landing_after.ensures.value ∙ c.in_ok-second.was) _ c.in_ok-rest.ensures (omega arith)
