use Rattle.std.proofs.Common.{rules, tests}
use Rattle.std.specs.Prelude.{IsTrue}
use Rattle.delay_labels.proofs.ListLemmas.{order_at}
use Rattle.delay_labels.proofs.merge.are_in_order.Goals as goal

pub loop-pair-preserved : goal.loop-pair-preserved
loop-pair-preserved c =
    let yes : IsTrue c.may_precede.result = search (rules, tests) in
    λ up. c.loop-pair.invariant (order_at c.loop-pair.last c.args.pairs.now c.loop-pair.pair-index c.loop-pair-test.true
    (c.may_precede.ensures yes) up)
