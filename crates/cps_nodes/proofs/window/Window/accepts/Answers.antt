use Rattle.std.proofs.Common.{◌≡◌, ◌/◌, ◌<◌, arith, subst}
use Rattle.std.specs.Prelude.{ℤ, pos, ◌-ℤ◌, ◌↔◌}
use Rattle.std.specs.Int.{bit_at}
use Rattle.std.proofs.lemmas.Bool.Decides.{Decides-eqb}
use Rattle.std.proofs.lemmas.Int.{ints}
use Rattle.std.proofs.lemmas.Nat.Bits.{shr_and_one}
use Rattle.cps_nodes.specs.Windows.{Accepts}
use Rattle.cps_nodes.proofs.window.Window.accepts.Goals as goal

pub returns-clause-accepts : goal.returns-clause-accepts
returns-clause-accepts g c =
    let at : (pos c.bit_of_offset.result -ℤ pos (g.row.W / 2)) ≡ c.args.offset =
    omega (arith, ints, c.bit_of_offset.ensures.bit) in
    let below : c.bit_of_offset.result < g.row.W = omega (
      arith,
      ints,
      c.bit_of_offset.ensures.bit,
      c.requires.high,
      c.accepted.ensures.valid.is_width,
    ) in
    let set : (bit_at c.accepted.result c.bit_of_offset.result ≡ 1) ↔ ((c.bit_of_offset.result < g.row.W)
    × Accepts c.args.self.now c.args.offset) =
    subst (λ (o : ℤ). (bit_at c.accepted.result c.bit_of_offset.result ≡ 1) ↔ ((c.bit_of_offset.result < g.row.W)
    × Accepts c.args.self.now o)) at (c.accepted.ensures.accepted c.bit_of_offset.result) in
    grind (arith, shr_and_one, Decides-eqb)
