use Rattle.std.proofs.Common.{arith}
use Rattle.first_best.proofs.PairLemmas.{cost_found, none_found}
use Rattle.first_best.proofs.pairs.PairList.cost_from.Goals as goal

pub returns-then-place-len : goal.returns-then-place-len
returns-then-place-len c =
    let xs = c.args.self.now in
    let at = c.place_from-place.ensures in
    let found = cost_found xs c.requires _ _ (omega arith) (at.late (omega arith)) at.below in
    rw c.pair.ensures found

pub returns-else-place-len : goal.returns-else-place-len
returns-else-place-len c = none_found _ _ _ (omega arith) c.place_from-place.ensures.below
