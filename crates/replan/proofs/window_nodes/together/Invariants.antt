use Rattle.std.proofs.Common.{◌≡◌, length}
use Rattle.replan.proofs.TogetherLemmas.{AreGrouped}
use Rattle.replan.proofs.window_nodes.together.Given as goal

abbrev pub invariant-loop-i : goal.invariant-loop-i
invariant-loop-i g l = (length l.near ≡ 512)
    × AreGrouped l.stage.0 l.stage.1 l.i l.places.items l.firsts.items l.nodes.items
