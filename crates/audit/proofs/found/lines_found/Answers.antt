use Rattle.std.proofs.Common.{◌+◌, [], ◌++◌, map, drop, refl, ap, ◌∙◌}
use Rattle.std.specs.List.{cons_option}
use Rattle.landing_rules.specs.Audit.{lines_found}
use Rattle.plan_file.specs.Shown.{shown_of}
use Rattle.audit.proofs.FoundLines.{found_step}
use Rattle.audit.specs.shared.Steps.{at_end}
use Rattle.audit.proofs.found.lines_found.Goals as goal

pub loop-line-preserved : goal.loop-line-preserved
loop-line-preserved c =
    let active = c.args.active.now in
    let lines = c.args.lines.now in
    ap (λ l. l ++ lines_found active (map shown_of (drop (c.loop-line.line-index + 1) lines)))
    c.in_ok-take_found.ensures
    ∙ found_step active lines c.loop-line.line-index c.line-item.result c.loop-line.all.items
    (cons_option c.in_ok-found.found []) (lines_found active (map shown_of lines))
    c.loop-line-test.true c.line-item.is (ap (λ o. cons_option o []) c.in_ok-found.ensures) c.loop-line.invariant

pub loop-line-init : goal.loop-line-init
loop-line-init c = ap (λ l. l ++ lines_found c.args.active.now (map shown_of c.args.lines.now))
    c.in_ok-all.ensures.items

pub returns : goal.returns
returns c = at_end c.loop-line.all.items (λ ls. lines_found c.args.active.now (map shown_of ls))
    c.args.lines.now c.loop-line.line-index _ c.loop-line-test.false refl c.loop-line.invariant
