use Rattle.std.proofs.Common.{◌≡◌, ℕ, ◌<◌, length}
use Rattle.cps_network.specs.Pairs.{list_at}
use Rattle.first_best.specs.Nodes.{node_at}
use Rattle.first_best.specs.Completing.{ArePairsOf}
use Rattle.first_best.proofs.complete.complete.Given as goal

abbrev pub invariant-loop-node : goal.invariant-loop-node
invariant-loop-node l = record {
  one_each : length l.lists.items ≡ l.node-index;
  pairs : (j : ℕ) → j < l.node-index → ArePairsOf l.wanted.problem.now l.wanted.value l.wanted.budget l.wanted.stage
      (node_at l.nodes j) l.next (list_at l.lists.items j);
}
