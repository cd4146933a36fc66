use Rattle.std.proofs.Common.{rules, tests, ◌∙◌}
use Rattle.std.proofs.lemmas.Iterator.{YieldsList-from_slice}
use Rattle.std.proofs.lemmas.Iterator.Search.{find_from_yields_List}
use Rattle.situations.specs.Refused.{lands_late}
use Rattle.situations.proofs.given.late_listed.Goals as goal

pub returns : goal.returns
returns c =
    search (rules) ∙ find_from_yields_List (lands_late c.args.situation.now.active c.args.given.now.second)
    _ _ c.find.result c.find.ensures.ran (YieldsList-from_slice c.args.given.now.flight.after (cc))
    (λ x b q k. search (rules, tests))
