-- What stands so far and what is to come are the text; the front is as it was.
use Rattle.std.proofs.Common.{◌≡◌, ◌++◌, length, take}
use Rattle.std.specs.Prelude.{flat_map}
use Rattle.texts.proofs.appending.append_all.Given as goal

abbrev pub invariant-loop-rest : goal.invariant-loop-rest
invariant-loop-rest l =
    (l.into.items ++ flat_map (λ p. p.now) l.rest ≡ l.fn.into.items ++ flat_map (λ p. p.now) l.fn.pieces)
    × (take l.before l.into.items ≡ l.fn.into.items)

abbrev pub decreases-loop-rest : goal.decreases-loop-rest
decreases-loop-rest l = length l.rest
