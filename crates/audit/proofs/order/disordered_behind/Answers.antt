-- One more line.
use Rattle.std.proofs.Common.{◌+◌, ◌++◌, get_or, map, drop, refl, ap, ◌∙◌}
use Rattle.landing_rules.specs.Audit.{disordered_from}
use Rattle.plan_file.specs.Shown.{shown_of}
use Rattle.audit.specs.Findings.{finding_of, out_of_order}
use Rattle.audit.specs.shared.Steps.{at_end}
use Rattle.audit.proofs.Ordering.{order_step}
use Rattle.audit.proofs.order.disordered_behind.Goals as goal

pub loop-i-preserved : goal.loop-i-preserved
loop-i-preserved c =
    let lines = c.args.lines.now in
    let i = c.loop-i.i in
    let line = get_or lines i c.index-lines-i.result in
    ap (λ l. l ++ disordered_from ((i + 1) + 2) line.second (map shown_of (drop (i + 1) lines))) c.in_ok-note.ensures
    ∙ order_step lines i c.loop-i.before line (map finding_of c.loop-i.all.items)
    (out_of_order (i + 2) c.loop-i.before line.second) _
    c.loop-i-test.true (ap (get_or lines i) c.index-lines-i.is) refl c.loop-i.invariant

pub returns : goal.returns
returns c = at_end (map finding_of c.loop-i.all.items) (λ ls. disordered_from (c.loop-i.i + 2) c.loop-i.before
    (map shown_of ls)) c.args.lines.now c.loop-i.i _ c.loop-i-test.false refl c.loop-i.invariant
