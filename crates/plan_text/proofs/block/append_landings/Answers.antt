use Rattle.std.proofs.Common.{◌+◌, ◌++◌, ◌∙◌, ap, drop}
use Rattle.plan_file.specs.Shown.{shown_of}
use Rattle.plan_text.proofs.Landings.{landing_lines, lines_left}
use Rattle.plan_text.proofs.block.append_landings.Goals as goal

pub loop-i-preserved : goal.loop-i-preserved
loop-i-preserved c =
    ap (λ t. t ++ landing_lines (drop (c.loop-i.i + 1) c.args.plan.now.landings)) c.in_ok-append_landing.ensures
    ∙ lines_left c.args.plan.now.landings c.loop-i.i
    (shown_of c.line-landing.result) c.loop-i.into.items c.line-landing.ensures
    ∙ c.loop-i.invariant
