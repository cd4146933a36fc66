-- The state that is found is the only one of the node; where none is found, there is none.
use Rattle.std.proofs.Common.{rules, arith}
use Rattle.cps_theory.specs.laws.NodeOrder.{none_covers, found_covers, non_decreasing}
use Rattle.cert_check.specs.Seen.{seen}
use Rattle.cert_check.specs.States.{node_of, pairs_of}
use Rattle.cert_check.proofs.Order.{in_node_order}
use Rattle.cert_check.proofs.closure.covers.Goals as goal

pub returns-in-Err : goal.returns-in-Err
returns-in-Err c =
    let ss = c.args.states.now in
    let split = (rw c.in-Err.is at c.find.ensures.found)
    (non_decreasing node_of pairs_of (seen c.args.node.now) ss (in_node_order ss c.requires)) in search
    (rules, none_covers)

pub returns-in-Ok : goal.returns-in-Ok
returns-in-Ok c =
    let ss = c.args.states.now in
    let s = c.index-states-at.result in grind (
      arith,
      found_covers node_of pairs_of (seen c.args.node.now) c.args.pair ss (in_node_order ss c.requires)
          c.in-Ok.at s (rw c.in-Ok.is at c.find.ensures.bound) ((rw c.in-Ok.is at c.find.ensures.found) s),
    )
