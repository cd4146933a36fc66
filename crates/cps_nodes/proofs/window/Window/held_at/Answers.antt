use Rattle.std.proofs.Common.{arith}
use Rattle.cps_nodes.specs.Digits.{offsets_of}
use Rattle.cps_nodes.specs.Held.{AreHeld}
use Rattle.cps_nodes.proofs.HeldLemmas.{held_early, held_late}
use Rattle.cps_nodes.proofs.window.Window.held_at.Goals as goal

pub returns-then-stage-start-clause-held : goal.returns-then-stage-start-clause-held
returns-then-stage-start-clause-held g c = λ rank some.
    let are : AreHeld (offsets_of g.row.W c.self.inside.digits) c.from-held.result = grind arith in
    rw (← c.self.view_is) (held_early g.row.W c.args.stage c.from-held.result (offsets_of g.row.W c.self.inside.digits)
    c.self.invariant.window are c.if-stage-start.true rank)

pub returns-clause-held : goal.returns-clause-held
returns-clause-held g c = λ rank some.
    let are : AreHeld (offsets_of g.row.W c.self.inside.digits) c.from-held.result = grind arith in
    rw (← c.self.view_is) (held_late g.row.W c.args.stage c.from-held.result (offsets_of g.row.W c.self.inside.digits)
    c.self.invariant.window are (omega (arith, c.if-stage-start.false)) c.requires rank)
