use Rattle.first_best.proofs.ChoiceLemmas.{with_way}
use Rattle.first_best.proofs.choice.found_by.Goals as goal

pub returns-then-leads_to-clause-found : goal.returns-then-leads_to-clause-found
returns-then-leads_to-clause-found c =
    with_way _ _ _ _ _ _ (c.leads_to.ensures.0 c.if-leads_to.true) _ c.affordable.ensures.found
