use Rattle.std.proofs.Common.{arith}
use Rattle.cps_nodes.specs.Digits.{offsets_of}
use Rattle.cps_nodes.specs.Held.{AreHeld}
use Rattle.cps_nodes.proofs.HeldLemmas.{accepted_bits}
use Rattle.cps_nodes.proofs.window.Window.accepted.Goals as goal

pub returns-clause-accepted : goal.returns-clause-accepted
returns-clause-accepted g c =
    let held : AreHeld (offsets_of g.row.W c.self.inside.digits) c.from-held.result = grind arith in
    rw (← c.self.view_is, c.lowest_bits-due.ensures) (accepted_bits g.row.W c.from-held.result c.count_due.result
    (offsets_of g.row.W c.self.inside.digits) c.self.invariant.window held c.from-held.type_inv
    c.count_due.ensures.most (c.count_due.ensures.due _ c.self.invariant.window c.held_ranks-ranks.ensures))
