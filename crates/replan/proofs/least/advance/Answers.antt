use Rattle.std.proofs.Common.{◌∙◌}
use Rattle.replan.proofs.least.advance.Goals as goal

pub returns-clause-whole : goal.returns-clause-whole
returns-clause-whole g c = rw c.replace-former.ensures.after
    (rw (← (c.former.view_is ∙ c.replace-former.ensures.value)) at c.in_ok-next.ensures.whole)
