use Rattle.std.proofs.Common.{subst}
use Rattle.std.specs.Prelude.{All}
use Rattle.std.proofs.lemmas.List.{take_all}
use Rattle.std.proofs.lemmas.List.Elements.{All-more}
use Rattle.arrivals.specs.Seen.{flight_of}
use Rattle.situations.specs.Opened.{IsKept}
use Rattle.situations.proofs.situation.all_known.Goals as goal

pub loop-flight-preserved : goal.loop-flight-preserved
loop-flight-preserved c =
    All-more (λ f. IsKept (flight_of f)) c.args.flights.now c.loop-flight.flight-index c.flight-item.result
    c.loop-flight-test.true c.loop-flight.invariant
    (subst (λ g. IsKept (flight_of g)) c.flight-item.is c.known.ensures)

pub returns : goal.returns
returns c = subst (All (λ f. IsKept (flight_of f)))
    (take_all c.loop-flight.flight-index c.args.flights.now c.loop-flight-test.false) c.loop-flight.invariant
