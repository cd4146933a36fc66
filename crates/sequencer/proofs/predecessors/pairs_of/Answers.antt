use Rattle.std.proofs.Common.{map, arith}
use Rattle.std.proofs.lemmas.List.{length-map}
use Rattle.sequencer.proofs.Listed.{none_below, one_below, all_below}
use Rattle.sequencer.proofs.predecessors.pairs_of.Goals as goal

pub loop-next-init : goal.loop-next-init
loop-next-init c = none_below _ _ c.new-pairs.ensures

pub loop-next-preserved : goal.loop-next-preserved
loop-next-preserved c = one_below _ _ _ _ c.loop-next.invariant c.add_predecessors.ensures

pub returns : goal.returns
returns c =
    let n = length-map c.args.ranked.now.items (λ a. a.now) in
    all_below (map (λ a. a.now) c.args.ranked.now.items) c.loop-next.pairs c.loop-next.next
    (let e = c.len.ensures in let v = c.args.ranked.now.ok.0 in omega (arith, c.loop-next-test.false))
    c.loop-next.invariant
