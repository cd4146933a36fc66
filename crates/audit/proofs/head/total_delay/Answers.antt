use Rattle.std.proofs.Common.{◌+◌, ◌^◌, sym, ◌∙◌, rules, arith}
use Rattle.std.proofs.lemmas.Iterator.{YieldsList-from_slice, YieldsList-from_map}
use Rattle.std.proofs.lemmas.Iterator.Adapters.{fits_from_length, at_most_from_yields_List}
use Rattle.std.proofs.lemmas.Iterator.Consumers.{sum_by_from_yields_List}
use Rattle.std.proofs.lemmas.List.Folds.{fold-map}
use Rattle.landing_rules.specs.Audit.{landing_of}
use Rattle.cps_base.specs.Limits.{most_flights}
use Rattle.landing_rules.specs.Rules.{delay}
use Rattle.audit.proofs.head.total_delay.Goals as goal

pub sum-requires-clause-fits : goal.sum-requires-clause-fits
sum-requires-clause-fits c = fits_from_length _ _ most_flights (2 ^ 64)
    (at_most_from_yields_List (YieldsList-from_slice c.args.found.now cc) c.requires.few) c.map.ensures.closure
    (omega arith) (λ x r q k. search rules)

pub returns : goal.returns
returns c =
    let found = c.args.found.now in
    sum_by_from_yields_List (λ f. delay (landing_of f)) found c.map.result _ c.sum.ensures.ran
    (YieldsList-from_map _ (λ f. delay (landing_of f)) (YieldsList-from_slice found (cc)) c.map.ensures.closure
    (λ x r q k. search rules)) ∙ sym (fold-map (λ a x. a + delay x) landing_of 0 found)
