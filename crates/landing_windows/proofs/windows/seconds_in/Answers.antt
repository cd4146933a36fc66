use Rattle.std.proofs.Common.{◌+◌, ◌-◌, rules, tests}
use Rattle.std.proofs.lemmas.Iterator.{YieldsList-from_slice, YieldsList-from_map}
use Rattle.std.proofs.lemmas.Iterator.Consumers.{sum_by_from_yields_List}
use Rattle.landing_rules.specs.Flights.{Span}
use Rattle.landing_windows.proofs.windows.seconds_in.Goals as goal

pub returns : goal.returns
unfolding Rattle.landing_windows.specs.Windows.seconds_in
returns c = sum_by_from_yields_List (λ (w : Span). w.1 + 1 - w.0) c.args.spans.now c.map.result _ c.sum.ensures.ran
    (YieldsList-from_map _ (λ (w : Span). w.1 + 1 - w.0)
    (YieldsList-from_slice c.args.spans.now (cc)) c.map.ensures.closure (λ x r q k. search (rules, tests)))
