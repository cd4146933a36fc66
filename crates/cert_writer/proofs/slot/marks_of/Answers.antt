use Rattle.std.proofs.Common.{ℕ, ◌-◌, ◌*◌, ◌/◌, ◌%◌, ◌^◌, suc, arith, ap, sym, ◌∙◌}
use Rattle.certificate.specs.Patterns.{bits}
use Rattle.cert_writer.proofs.SlotLemmas.{digits_low, marks_bits, marks_cut, tests_high}
use Rattle.cert_writer.proofs.slot.marks_of.Goals as goal

pub returns-then-stage-k : goal.returns-then-stage-k
returns-then-stage-k c =
    let k = c.args.k in
    let near = c.requires.near in
    sym (digits_low k c.args.stage c.args.placed near c.if-stage-k.true)
    ∙ c.patterns_are_bits.ensures.digits k c.args.stage (c.args.placed % 2 ^ (64 - k)) _
    (marks_cut k c.args.placed _ near (marks_bits k c.args.placed near))

pub returns-else-stage-k : goal.returns-else-stage-k
returns-else-stage-k c =
    tests_high c.args.k c.args.placed (suc c.args.stage) (2 * c.args.k) (omega (arith, c.if-stage-k.false))
    ∙ ap (λ (e : ℕ). bits (2 * c.args.k) (c.args.placed / 2 ^ e)) (omega arith)
