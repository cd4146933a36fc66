use Rattle.std.proofs.Common.{◌+◌, ◌++◌, map, drop, ap, ◌∙◌, refl}
use Rattle.landing_rules.specs.Flights.{Landing}
use Rattle.landing_rules.specs.Audit.{landing_of, are_apart, unseparated, Separation}
use Rattle.audit.specs.Findings.{finding_of}
use Rattle.audit.proofs.EachPair.{pairs_more}
use Rattle.audit.specs.shared.Steps.{at_end}
use Rattle.audit.proofs.rules.unseparated.Goals as goal

pub loop-i-preserved : goal.loop-i-preserved
loop-i-preserved c =
    let table = c.args.table.now in
    let found = c.args.found.now in
    ap (λ l. l ++ unseparated table (map landing_of (drop (c.loop-i.i + 1) found))) c.in_ok-unseparated_from.ensures
    ∙ pairs_more (are_apart table) (λ (f g : Landing). Separation f.flight.callsign g.flight.callsign)
    landing_of found c.loop-i.i c.index-found-i.result (map finding_of c.loop-i.all.items) _ _
    c.loop-i-test.true c.index-found-i.is refl c.loop-i.invariant

pub returns : goal.returns
returns c = at_end (map finding_of c.loop-i.all.items) (λ ls. unseparated c.args.table.now (map landing_of ls))
    c.args.found.now c.loop-i.i _ c.loop-i-test.false refl c.loop-i.invariant
