-- Behind the last pair, what is left in order leaves the whole in order.
use Rattle.std.proofs.Common.{◌∷◌, drop}
use Rattle.cps_theory.specs.UndominatedPairs.{InPairOrder}
use Rattle.delay_labels.proofs.merge.are_in_order.Given as goal

abbrev pub invariant-loop-pair : goal.invariant-loop-pair
invariant-loop-pair l = InPairOrder (l.last ∷ drop l.pair-index l.pairs) → InPairOrder ((0, 0) ∷ l.pairs)
