use Rattle.landing_rules.specs.Rules.{last_second}
use Rattle.first_best.specs.Nodes.{node_at}
use Rattle.first_best.proofs.ChoiceLemmas.{lesser_days}
use Rattle.first_best.proofs.choice.with_node.Goals as goal

pub returns-clause-lesser : goal.returns-clause-lesser
returns-clause-lesser c =
    let p = c.args.prefix.now.problem.now in
    let node = node_at c.args.stage.now.nodes c.args.j in
    let found = c.found_by-found.result in
    let here = rw c.list.ensures at (rw c.node-after.ensures at c.found_by-found.ensures.found) in
    (found, here, rw c.node-after.ensures at c.lesser.ensures)

pub returns-clause-in_days : goal.returns-clause-in_days
returns-clause-in_days c = λ days. rw c.lesser.ensures (lesser_days last_second _ _ _
    days c.found_by-found.ensures.in_days)
