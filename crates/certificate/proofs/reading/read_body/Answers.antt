use Rattle.std.proofs.Common.{rules, sym, ◌∙◌, arith}
use Rattle.std.proofs.lemmas.Grind.{common_steps}
use Rattle.texts.specs.Parts.{parts}
use Rattle.texts.specs.shared.Cuts.{parts_short, has_part}
use Rattle.certificate.proofs.Valid.{body_is}
use Rattle.certificate.proofs.Steps.{line_stop_all, line_end}
use Rattle.certificate.proofs.reading.read_body.Goals as goal

pub loop-after-init : goal.loop-after-init
loop-after-init c = search (rules, parts_short)

pub overflow_add-number : goal.overflow_add-number
overflow_add-number c = search (rules, has_part)

pub returns-in_err-take_line : goal.returns-in_err-take_line
returns-in_err-take_line c = search (rules, line_stop_all, has_part)

pub new-requires : goal.new-requires
new-requires c =
    body_is c.args.claim (parts 10 c.args.text.now) _ c.requires.range (omega (arith, parts_short 10 c.args.text.now))
    (sym (rw c.in_default.is at c.loop-after.invariant.same) ∙ line_end c.loop-after.number c.args.claim
    (c.loop-after.landings.items, c.loop-after.states.items) c.loop-after.line.now (grind (arith, common_steps)))
