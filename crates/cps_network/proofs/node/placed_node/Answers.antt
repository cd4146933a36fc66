use Rattle.cps_network.proofs.PlacedLemmas.{halved_twice}
use Rattle.cps_network.proofs.node.placed_node.Goals as goal

pub returns-clause-placed : goal.returns-clause-placed
returns-clause-placed g c = (λ rank.
    let bit = halved_twice c.placed_set-placed.result rank in (
      λ has. let h = bit.0 has in (h.0, (c.placed_set-placed.ensures rank h.0).0 h.1),
      λ is. bit.1 (is.0, (c.placed_set-placed.ensures rank is.0).1 is.1),
    ))
