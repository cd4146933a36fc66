use Rattle.std.proofs.Common.{rules, tests, ◌∙◌}
use Rattle.std.specs.Prelude.{nat_lt}
use Rattle.std.proofs.lemmas.Iterator.{YieldsList-from_slice}
use Rattle.std.proofs.lemmas.Iterator.Search.{position_from_yields_List}
use Rattle.arrivals.specs.declared.passed_list.PassedCount.{PassedCount}
use Rattle.whatif.proofs.AboveLemmas.{above_place}
use Rattle.whatif.proofs.refusal.first_above.Goals as goal

pub returns : goal.returns
returns c =
    search (rules) ∙ above_place c.args.k c.args.passed.now c.position.result
    (position_from_yields_List (λ (p : PassedCount). nat_lt c.args.k p.count) _ _ c.position.result
    c.position.ensures.ran (YieldsList-from_slice c.args.passed.now (cc)) (λ x b q k. search (rules, tests)))
