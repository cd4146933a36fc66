use Rattle.std.proofs.Common.{None, refl, ◌∙◌, rules}
use Rattle.std.proofs.lemmas.Iterator.Adapters.{YieldsList-from_rev_slice}
use Rattle.std.proofs.lemmas.Iterator.Consumers.{fold_from_yields_List}
use Rattle.cps_base.specs.laws.Folds.{fold_from_back}
use Rattle.sequencer.specs.Frozen.{latest, later_of}
use Rattle.sequencer.proofs.frozen.latest.Goals as goal

pub returns : goal.returns
returns c = fold_from_yields_List _ (λ found a. later_of a found) None _ c.fold.ensures.ran
    (YieldsList-from_rev_slice c.args.flights.now (cc)) (λ found x r q k. search rules)
    ∙ fold_from_back (λ found a. later_of a found) None latest refl (λ x xs. refl) c.args.flights.now
