use Rattle.std.proofs.Common.{◌+◌, ◌++◌, map, drop, ap, ◌∙◌, refl}
use Rattle.landing_rules.specs.Flights.{Active}
use Rattle.landing_rules.specs.Audit.{has_line, missing, Missing}
use Rattle.plan_file.specs.Shown.{shown_of}
use Rattle.audit.specs.Findings.{finding_of}
use Rattle.audit.specs.shared.Steps.{at_end}
use Rattle.audit.proofs.Failing.{failing_here}
use Rattle.audit.proofs.names.missing.Goals as goal

pub loop-a-preserved : goal.loop-a-preserved
loop-a-preserved c = ap (λ y. y ++ missing
    (drop (c.loop-a.a-index + 1) c.args.active.now) (map shown_of c.args.lines.now)) c.in_ok-note_missing.ensures
    ∙ failing_here (λ (a : Active). has_line (map shown_of c.args.lines.now) a.flight.callsign)
    (λ (a : Active). Missing a.flight.callsign) c.args.active.now c.loop-a.a-index c.a-item.result _
    (map finding_of c.loop-a.all.items) _ c.loop-a-test.true c.a-item.is (c.requires _) c.loop-a.invariant

pub returns : goal.returns
returns c = at_end (map finding_of c.loop-a.all.items) (λ ys. missing ys (map shown_of c.args.lines.now))
    c.args.active.now c.loop-a.a-index _ c.loop-a-test.false refl c.loop-a.invariant
