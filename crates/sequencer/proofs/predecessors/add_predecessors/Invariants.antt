use Rattle.std.proofs.Common.{◌≡◌, ℕ, ◌<◌, ◌⊎◌, map}
use Rattle.std.specs.Prelude.{◌↔◌}
use Rattle.precedence.specs.Pairs.{MustPrecede}
use Rattle.sequencer.specs.Predecessors.{IsListed}
use Rattle.sequencer.proofs.predecessors.add_predecessors.Given as goal

-- the ranks so far were added
abbrev pub invariant-loop-first : goal.invariant-loop-first
invariant-loop-first l = (i j : ℕ) → MustPrecede l.pairs i j
    ↔ (MustPrecede l.fn.pairs i j ⊎ ((j ≡ l.next) × (i < l.first) × IsListed (map (λ a. a.now) l.ranked.items) i j))
