use Rattle.replan.specs.shared.Pushed.{each_upto}
use Rattle.std.proofs.Common.{◌≡◌, ◌+◌, ◌++◌, [], ◌∷◌, length, ap, ◌∙◌, length-append}
use Rattle.first_best.specs.Nodes.{node_at}
use Rattle.first_best.specs.Completing.{ArePairsOf}
use Rattle.first_best.proofs.complete.complete.Goals as goal

pub loop-node-preserved : goal.loop-node-preserved
loop-node-preserved c =
    let p = c.args.wanted.now.problem.now in
    let next = c.args.next.now in
    let old = c.loop-node.lists.items in
    let new = c.in_ok-pairs_of.field-0 in
    let i = c.loop-node.node-index in
    let is : c.push.new.self.items ≡ old ++ new ∷ [] = c.in_ok-push.ensures.items in
    let long = c.loop-node.invariant.one_each in
    record {
      one_each = ap length is ∙ length-append old (new ∷ []) ∙ ap (λ n. n + 1) long;
      pairs = rw is (each_upto (λ j l. ArePairsOf p c.args.wanted.now.value c.args.wanted.now.budget
          c.args.wanted.now.stage (node_at c.args.nodes.now j) next l) old new [] i long c.loop-node.invariant.pairs
          c.in_ok-pairs_of.ensures);
    }
