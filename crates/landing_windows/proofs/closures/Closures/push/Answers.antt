-- One closure more stands before the zeros.
use Rattle.std.proofs.Common.{arith, ap, length}
use Rattle.landing_windows.proofs.Padded.{push_kept}
use Rattle.landing_windows.proofs.closures.Closures.push.Goals as goal

pub invariant_of-self : goal.invariant_of-self
invariant_of-self c =
    push_kept c.self.inside.pairs c.self.inside.len c.args.pair c.self.invariant
    (omega (arith, ap length c.self.view_is, c.self.invariant.1)) c.requires.closure
