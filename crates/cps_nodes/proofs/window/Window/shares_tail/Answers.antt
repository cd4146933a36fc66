use Rattle.std.proofs.Common.{arith, drop}
use Rattle.std.specs.Prelude.{◌≡◌, IsTrue, ◌↔◌, nat_eq}
use Rattle.cps_nodes.specs.Digits.{offsets_of}
use Rattle.cps_nodes.proofs.DigitTests.{tails_tested}
use Rattle.cps_nodes.proofs.TailLemmas.{GoOnAlike-same_tail}
use Rattle.cps_nodes.proofs.window.Window.shares_tail.Goals as goal

-- what the comparison of the numbers says
same : (g : _) (c : goal.After-tail_of-2 g) → IsTrue (nat_eq c.tail_of.result c.tail_of-2.result)
    ↔ (drop 1 (offsets_of g.row.W c.self.inside.digits) ≡ drop 1 (offsets_of g.row.W c.other.inside.digits))
same g c = grind (arith, tails_tested, c.tail_of.ensures)

pub returns-clause-same : goal.returns-clause-same
returns-clause-same g c = rw (← c.self.view_is, ← c.other.view_is) (same g c)

pub returns-clause-alike : goal.returns-clause-alike
returns-clause-alike g c = grind (arith, GoOnAlike-same_tail, c.self.invariant.window, c.other.invariant.window, same)
