use Rattle.std.proofs.Common.{arith, ◌≡◌}
use Rattle.std.proofs.lemmas.Int.{to_z-of_z}
use Rattle.cps_nodes.specs.Digits.{offsets_of}
use Rattle.cps_nodes.specs.Windows.{shifted}
use Rattle.cps_nodes.proofs.LawLemmas.{lead_on}
use Rattle.cps_nodes.proofs.window.Window.after.Goals as goal

-- the offsets of the new number
next_is : (g : _) (c : goal.After-shift-digits g)
    → offsets_of g.row.W c.shift-digits.result ≡ shifted (offsets_of g.row.W c.self.inside.digits) c.args.offset
next_is g c = grind (arith, to_z-of_z)

pub invariant_of-result : goal.invariant_of-result
invariant_of-result g c = grind (arith, next_is, lead_on, c.self.invariant.window)

pub returns : goal.returns
returns g c = grind (arith, next_is)
