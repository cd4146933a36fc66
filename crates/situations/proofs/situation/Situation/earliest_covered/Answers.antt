use Rattle.std.proofs.Common.{None, refl, ◌∙◌, rules}
use Rattle.std.proofs.lemmas.Iterator.Adapters.{YieldsList-from_rev_slice}
use Rattle.std.proofs.lemmas.Iterator.Consumers.{fold_from_yields_List}
use Rattle.cps_base.specs.laws.Folds.{fold_from_back}
use Rattle.landing_rules.specs.Flights.{Span}
use Rattle.situations.specs.Finds.{earliest_covered, earlier_of}
use Rattle.situations.proofs.situation.Situation.earliest_covered.Goals as goal

pub returns : goal.returns
returns c =
    let span : Span = (c.args.from, c.args.to) in
    fold_from_yields_List _ (λ found a. earlier_of span a found) None _ c.fold.ensures.ran
    (YieldsList-from_rev_slice c.args.self.now.active (search (rules))) (λ found x r q k. search rules)
    ∙ fold_from_back (λ found a. earlier_of span a found) None (earliest_covered span) refl
    (λ x xs. refl) c.args.self.now.active
