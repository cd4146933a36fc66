use Rattle.std.proofs.Common.{ℕ, ◌<◌, map}
use Rattle.std.specs.Prelude.{◌↔◌}
use Rattle.precedence.specs.Pairs.{MustPrecede}
use Rattle.sequencer.specs.Predecessors.{IsListed}
use Rattle.sequencer.proofs.predecessors.pairs_of.Given as goal

-- the ranks so far have their predecessors
abbrev pub invariant-loop-next : goal.invariant-loop-next
invariant-loop-next l = (i j : ℕ) → MustPrecede l.pairs i j
    ↔ ((j < l.next) × IsListed (map (λ a. a.now) l.ranked.items) i j)
