use Rattle.std.proofs.Common.{arith}
use Rattle.precedence.proofs.PairsLemmas.{MustPrecede-added, ArePairs-added}
use Rattle.precedence.proofs.pairs.Pairs.add.Goals as goal

pub invariant_of-self : goal.invariant_of-self
invariant_of-self c = ArePairs-added _ _ _ c.self.invariant c.requires.first.0 c.requires.first.1
    c.requires.next.0 c.requires.next.1

pub returns : goal.returns
returns c = rw (← c.self.view_is) (MustPrecede-added _ _ _ (omega (arith, c.self.invariant.len)) (omega arith))
