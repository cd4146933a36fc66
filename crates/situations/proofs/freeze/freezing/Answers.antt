use Rattle.situations.proofs.Freezing.{freezing-step}
use Rattle.situations.proofs.freeze.freezing.Goals as goal

pub loop-i-preserved : goal.loop-i-preserved
loop-i-preserved c =
    freezing-step c.args.h c.loop-i.i c.args.active.now c.args.seconds.now c.index-active-i.result
    c.loop-i.found.items c.note_freezing.new.found.items
    c.requires c.loop-i-test.true c.index-active-i.is c.loop-i.invariant c.in_ok-note_freezing.ensures
