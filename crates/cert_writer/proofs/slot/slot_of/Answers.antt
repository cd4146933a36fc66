use Rattle.std.proofs.Common.{◌≡◌, ℕ, ◌+◌, ◌-◌, ◌*◌, ◌%◌, ◌^◌, ◌<◌, arith, ap, subst, sym}
use Rattle.std.proofs.Math.Nat.{mod-lt}
use Rattle.std.proofs.lemmas.Nat.{one_shl, pow_pos}
use Rattle.cert_check.specs.PlacedBits.{digits_of}
use Rattle.cert_writer.proofs.SlotLemmas.{slot_from}
use Rattle.cert_writer.proofs.slot.slot_of.Goals as goal

pub returns : goal.returns
returns c =
    let k = c.args.k in
    let m = c.marks_of.result in
    let near = c.requires.near in
    let is : m % (1 * 2 ^ (2 * k) % 18446744073709551616) ≡ m % 2 ^ (2 * k) =
    ap (λ (n : ℕ). m % n) (one_shl (2 * k) 64 (omega (arith, near))) in
    slot_from k c.args.stage c.args.node.last m (digits_of k c.args.stage c.args.node.placed)
    (m % (1 * 2 ^ (2 * k) % 18446744073709551616)) (c.args.node.last + k - c.args.stage)
    c.marks_of.ensures is
    (subst (λ (n : ℕ). n < 2 ^ (2 * k)) (sym is) (mod-lt m (pow_pos (2 * k)))) (omega (arith, c.requires.last.0))
    (omega (arith, near, c.requires.last.1))
