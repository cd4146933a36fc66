use Rattle.std.proofs.Common.{ap₂, ◌∙◌}
use Rattle.std.proofs.Math.ListN.{length-set}
use Rattle.cps_network.specs.Nodes.{latest}
use Rattle.replan.proofs.TogetherLemmas.{one_window}
use Rattle.replan.proofs.window_nodes.together.Goals as goal

pub loop-i-preserved : goal.loop-i-preserved
loop-i-preserved g c =
    let s = c.args.stage.now in
    let i = c.loop-i.i in
    let node = c.placed_node-node.result in
    let window = c.node.ensures.value in
    let number = c.number-number.ensures in
    let placed = rw number at (rw window at c.placed_node-node.ensures.placed) in
    let last = c.placed_node-node.ensures.last ∙ ap₂ (λ n xs. latest (n, xs)) number window in
    let more = one_window s.0 s.1 i _ _ _ c.loop-i.invariant.1 node placed last _ _ _ c.in_ok-place.ensures in
    (simp length-set c.loop-i.invariant.0, rw c.in_ok-push.ensures.items more)
