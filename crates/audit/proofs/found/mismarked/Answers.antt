use Rattle.std.proofs.Common.{◌+◌, ◌++◌, map, drop, ap, ◌∙◌, refl}
use Rattle.landing_rules.specs.Flights.{Active}
use Rattle.landing_rules.specs.Text.{ShownLanding}
use Rattle.landing_rules.specs.Audit.{is_marked, mismarked, Mark}
use Rattle.audit.specs.Findings.{finding_of}
use Rattle.audit.specs.shared.Steps.{at_end}
use Rattle.audit.proofs.Failing.{failing_here}
use Rattle.audit.proofs.found.mismarked.Goals as goal

pub loop-f-preserved : goal.loop-f-preserved
loop-f-preserved c = ap (λ y. y ++ mismarked (drop (c.loop-f.f-index + 1) c.args.found.now)) c.in_ok-note_mark.ensures
    ∙ failing_here is_marked (λ (f : ShownLanding × Active). Mark f.0.callsign) c.args.found.now c.loop-f.f-index
    c.f-item.result _ (map finding_of c.loop-f.all.items) _ c.loop-f-test.true c.f-item.is refl c.loop-f.invariant

pub returns : goal.returns
returns c = at_end (map finding_of c.loop-f.all.items)
    (λ ys. mismarked ys) c.args.found.now c.loop-f.f-index _ c.loop-f-test.false refl c.loop-f.invariant
