-- The open seconds within the flight's windows are the flight's where the runway's are given.
use Rattle.std.proofs.Common.{rules}
use Rattle.sequencer.proofs.waiting.waiting_of.Goals as goal

pub returns : goal.returns
returns c = λ closures runway. let spans = c.in_ok-times.ensures.flight closures runway in search rules
