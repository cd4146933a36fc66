use Rattle.std.proofs.Common.{◌*◌, ◌%◌, ◌^◌, arith, ◌∙◌}
use Rattle.std.specs.Prelude.{bit_or}
use Rattle.std.proofs.lemmas.Bool.Decides.{Decides-eqb}
use Rattle.std.proofs.lemmas.Nat.Bits.{shr_and_one}
use Rattle.precedence.specs.Pairs.{HasBit}
use Rattle.first_best.proofs.NodeLemmas.{set_leads, leads_set}
use Rattle.first_best.proofs.node.leads_to.Goals as goal

pub returns : goal.returns
returns c =
    let before = c.args.before in
    let after = c.args.after in
    let same = Decides-eqb after.placed (bit_or before.placed (1 * 2 ^ after.last % 2 ^ 64)) in
    let new = λ (h : HasBit before.placed after.last). c.if-before-after-eq1.false (shr_and_one before.placed after.last
    ∙ h) in
    (λ t. set_leads before after (omega arith) new (same.0 t), λ l. same.1 (leads_set before after (omega arith) l))
