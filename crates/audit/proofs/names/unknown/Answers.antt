use Rattle.std.proofs.Common.{◌+◌, ◌++◌, map, drop, ap, ◌∙◌, refl}
use Rattle.std.specs.List.{list_any}
use Rattle.landing_rules.specs.Events.{named}
use Rattle.landing_rules.specs.Text.{ShownLanding}
use Rattle.landing_rules.specs.Audit.{unknown, Unknown}
use Rattle.plan_file.specs.Shown.{shown_of}
use Rattle.audit.specs.Findings.{finding_of}
use Rattle.audit.specs.shared.Steps.{at_end}
use Rattle.audit.proofs.Failing.{failing_step}
use Rattle.audit.proofs.names.unknown.Goals as goal

pub loop-l-preserved : goal.loop-l-preserved
loop-l-preserved c =
    ap (λ y. y ++ unknown c.args.active.now (map shown_of (drop (c.loop-l.l-index + 1) c.args.lines.now)))
    c.in_ok-note_unknown.ensures ∙ failing_step (λ (l : ShownLanding). list_any (named l.callsign) c.args.active.now)
    (λ (l : ShownLanding). Unknown l.callsign) shown_of c.args.lines.now c.loop-l.l-index c.l-item.result _
    (map finding_of c.loop-l.all.items) _ c.loop-l-test.true c.l-item.is refl c.loop-l.invariant

pub returns : goal.returns
returns c = at_end (map finding_of c.loop-l.all.items) (λ ys. unknown c.args.active.now (map shown_of ys))
    c.args.lines.now c.loop-l.l-index _ c.loop-l-test.false refl c.loop-l.invariant
