use Rattle.cps_network.proofs.PlacedLemmas.{placed_of}
use Rattle.cps_network.proofs.permit.placed_set.Goals as goal

pub returns : goal.returns
returns g c = λ rank one. placed_of g.row.W c.args.window.now c.args.stage c.args.due c.held_at.result rank
    c.held_at.ensures.valid (c.requires.due rank) (c.held_at.ensures.held rank one)
