use Rattle.std.proofs.Common.{◌+◌, ◌++◌, map, drop, ap, ◌∙◌, refl}
use Rattle.landing_rules.specs.Flights.{Landing}
use Rattle.landing_rules.specs.Audit.{landing_of, is_before, listed_late, Precedence}
use Rattle.audit.specs.Findings.{finding_of}
use Rattle.audit.specs.shared.Steps.{at_end}
use Rattle.audit.proofs.Failing.{failing_step}
use Rattle.audit.proofs.rules.listed_late.Goals as goal

pub loop-f-preserved : goal.loop-f-preserved
loop-f-preserved c =
    let d = landing_of c.args.d.now in
    let found = c.args.found.now in
    ap (λ y. y ++ listed_late (map landing_of (drop (c.loop-f.f-index + 1) found)) d c.args.callsign)
    c.in_ok-note_late.ensures
    ∙ failing_step (is_before d c.args.callsign) (λ (f : Landing). Precedence c.args.callsign d.flight.callsign)
    landing_of found c.loop-f.f-index c.f-item.result _ (map finding_of c.loop-f.all.items) _
    c.loop-f-test.true c.f-item.is refl c.loop-f.invariant

pub returns : goal.returns
returns c = at_end (map finding_of c.loop-f.all.items) (λ ys. listed_late (map landing_of ys) (landing_of c.args.d.now)
    c.args.callsign) c.args.found.now c.loop-f.f-index _ c.loop-f-test.false refl c.loop-f.invariant
