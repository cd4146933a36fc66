use Rattle.std.proofs.Common.{◌≡◌, length, arith, ap, ◌∙◌}
use Rattle.std.proofs.lemmas.List.{get_or_default}
use Rattle.cps_network.specs.Lists as windows
use Rattle.cps_network.specs.Nodes.{latest}
use Rattle.cps_network.specs.Pairs.{pair_at}
use Rattle.replan.specs.Kept.{held_of}
use Rattle.replan.specs.Readers.{stage_in}
use Rattle.replan.specs.WindowNodes.{told_at}
use Rattle.first_best.specs.declared.node.EarlyNode.{EarlyNode}
use Rattle.first_best.proofs.GatherLemmas.{all_made, one_made}
use Rattle.first_best.proofs.gather.gather.Goals as goal

pub node-node-requires-clause-place : goal.node-node-requires-clause-place
node-node-requires-clause-place c =
    let n = c.args.windows.now in
    let long = ap (λ xs. length xs) c.firsts-firsts.ensures in
    let same : told_at c.firsts-firsts.result.now c.loop-j.j ≡ told_at n.firsts c.loop-j.j =
    ap (λ xs. told_at xs c.loop-j.j) c.firsts-firsts.ensures in
    let lt = c.requires.windows.together.first c.loop-j.j (omega arith) in
    omega arith

pub loop-j-preserved : goal.loop-j-preserved
loop-j-preserved c =
    let held = held_of c.args.kept.now in
    let stage = c.args.stage in
    let s = stage_in held stage in
    let n = c.args.windows.now in
    let j = c.loop-j.j in
    let least = c.in_ok-least.least.items in
    let node = c.node-node.result in
    let long = ap (λ xs. length xs) c.firsts-firsts.ensures in
    let same : told_at c.firsts-firsts.result.now j ≡ told_at n.firsts j = ap (λ xs. told_at xs j)
    c.firsts-firsts.ensures in
    let each = c.in_ok-least.ensures.least.one_each in
    let found : c.index-found.result.now ≡ pair_at least j = c.index-found.ensures
    ∙ get_or_default least j _ (0, 0) (omega arith) in
    let made : EarlyNode = record {
      placed = node.placed;
      last = node.last;
      earliest = c.index-found.result.now.0;
      cheapest = c.index-found.result.now.1;
    } in
    let more = one_made stage s.1 n.firsts least j _ c.loop-j.invariant made (record {
      placed = rw same at c.node-node.ensures.placed;
      last = c.node-node.ensures.last ∙ ap (λ i. latest (stage, windows.node_at s.1 i)) same;
    }) (ap (λ q. q.0) found) (ap (λ q. q.1) found) in
    rw c.in_ok-push.ensures.items more

pub returns : goal.returns
returns c =
    let p = c.args.problem.now in
    let held = held_of c.args.kept.now in
    let stage = c.args.stage in
    let n = c.args.windows.now in
    let least = c.in_ok-least.least.items in
    let are = c.stages-held.ensures.held p c.requires.held in
    let long = ap (λ xs. length xs) c.firsts-firsts.ensures in
    let end : c.loop-j.j ≡ length n.firsts = omega arith in
    all_made p held stage (are.number stage c.requires.stage.1) (are.pairs stage c.requires.stage.1) n
    c.requires.windows least c.in_ok-least.ensures.least _ (rw end at c.loop-j.invariant)
