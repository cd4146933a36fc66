use Rattle.std.proofs.Common.{◌∙◌, ℕ, max, map, refl, rules, tests}
use Rattle.std.proofs.lemmas.Iterator.Adapters.{YieldsList-from_rev_slice}
use Rattle.std.proofs.lemmas.Iterator.Consumers.{fold_from_yields_List}
use Rattle.cps_base.specs.laws.Folds.{fold_from_back}
use Rattle.landing_rules.specs.Rules.{greatest}
use Rattle.landing_rules.specs.Flights.{Active}
use Rattle.landing_rules.specs.Text.{ShownLanding}
use Rattle.landing_rules.specs.Audit.{landing_of}
use Rattle.audit.proofs.head.greatest_second.Goals as goal

abbrev with_line : ℕ → ShownLanding × Active → ℕ
with_line latest x = max (landing_of x).second latest

pub returns : goal.returns
returns c = fold_from_yields_List _ with_line 0 _ c.fold.ensures.ran (YieldsList-from_rev_slice c.args.found.now (cc))
    (λ latest x r q k. search (rules, tests)) ∙ fold_from_back with_line 0
    (λ xs. greatest (map (λ f. f.second) (map landing_of xs))) refl (λ x xs. refl) c.args.found.now
