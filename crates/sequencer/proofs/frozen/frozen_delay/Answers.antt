use Rattle.std.proofs.Common.{◌^◌, rules, arith}
use Rattle.std.proofs.lemmas.Iterator.{YieldsList-from_slice}
use Rattle.std.proofs.lemmas.Iterator.Adapters.{fits_from_length, at_most_from_yields_List}
use Rattle.std.proofs.lemmas.Iterator.Consumers.{sum_by_from_yields_List}
use Rattle.cps_base.specs.Limits.{most_flights}
use Rattle.sequencer.proofs.frozen.frozen_delay.Goals as goal

pub sum-requires-clause-fits : goal.sum-requires-clause-fits
sum-requires-clause-fits c = fits_from_length _ _ most_flights (2 ^ 64)
    (at_most_from_yields_List (YieldsList-from_slice c.args.flights.now cc) c.requires.few) c.map.ensures.closure
    (omega arith) (λ x r q k. search rules)

pub returns : goal.returns
returns c = search (rules, sum_by_from_yields_List)
