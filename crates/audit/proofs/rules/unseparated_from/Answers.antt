use Rattle.std.proofs.Common.{◌+◌, ◌++◌, map, drop, ap, ◌∙◌, refl}
use Rattle.landing_rules.specs.Flights.{Landing}
use Rattle.landing_rules.specs.Audit.{landing_of, are_apart, Separation}
use Rattle.audit.specs.Findings.{finding_of, too_near}
use Rattle.audit.specs.shared.Steps.{at_end}
use Rattle.audit.proofs.Failing.{failing_step}
use Rattle.audit.proofs.rules.unseparated_from.Goals as goal

pub loop-g-preserved : goal.loop-g-preserved
loop-g-preserved c =
    let f = landing_of c.args.first.now in
    let others = c.args.others.now in
    ap (λ y. y ++ too_near c.args.table.now f (map landing_of (drop (c.loop-g.g-index + 1) others)))
    c.in_ok-note_unseparated.ensures
    ∙ failing_step (are_apart c.args.table.now f) (λ (g : Landing). Separation f.flight.callsign g.flight.callsign)
    landing_of others c.loop-g.g-index c.g-item.result _ (map finding_of c.loop-g.all.items) _
    c.loop-g-test.true c.g-item.is refl c.loop-g.invariant

pub returns : goal.returns
returns c = at_end (map finding_of c.loop-g.all.items) (λ ys. too_near c.args.table.now (landing_of c.args.first.now)
    (map landing_of ys)) c.args.others.now c.loop-g.g-index _ c.loop-g-test.false refl c.loop-g.invariant
