use Rattle.std.proofs.Common.{◌+◌, ◌++◌, map, drop, ap, ◌∙◌, refl}
use Rattle.std.specs.Prelude.{unwrap_or}
use Rattle.landing_rules.specs.Flights.{Landing}
use Rattle.landing_rules.specs.Audit.{landing_of, is_kept, moved, Moved}
use Rattle.audit.specs.Findings.{finding_of}
use Rattle.audit.specs.shared.Steps.{at_end}
use Rattle.audit.proofs.Failing.{failing_step}
use Rattle.audit.proofs.rules.moved.Goals as goal

pub loop-f-preserved : goal.loop-f-preserved
loop-f-preserved c = ap (λ y. y ++ moved (map landing_of (drop (c.loop-f.f-index + 1) c.args.found.now)))
    c.in_ok-note_moved.ensures ∙ failing_step is_kept
    (λ (f : Landing). Moved f.flight.callsign (unwrap_or f.frozen 0)) landing_of c.args.found.now c.loop-f.f-index
    c.f-item.result _ (map finding_of c.loop-f.all.items) _ c.loop-f-test.true c.f-item.is refl c.loop-f.invariant

pub returns : goal.returns
returns c = at_end (map finding_of c.loop-f.all.items)
    (λ ys. moved (map landing_of ys)) c.args.found.now c.loop-f.f-index _ c.loop-f-test.false refl c.loop-f.invariant
