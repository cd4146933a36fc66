use Rattle.std.proofs.Common.{List, arith, ap, ◌∙◌, ◌++◌}
use Rattle.cps_theory.specs.Labels.{Pair}
use Rattle.delay_labels.specs.Lists.{successors}
use Rattle.delay_labels.proofs.ListLemmas.{range_more}
use Rattle.delay_labels.proofs.merge.successors_of.Goals as goal

pub loop-i-preserved : goal.loop-i-preserved
loop-i-preserved c = let inv = c.loop-i.invariant in (
  range_more c.args.landings.now.problem c.args.last c.args.rank c.loop-i.found.items
      c.add_successors.new.into.items c.args.labels.now c.args.range.0 c.loop-i.i (omega arith)
      (omega (arith, c.loop-i-test.true, c.requires.range)) inv.0
      (c.in_ok-add_successors.ensures.successors
      ∙ ap (λ (l : List Pair). c.loop-i.found.items ++ successors c.args.landings.now.problem c.args.last c.args.rank l)
      c.list.ensures.value),
  c.add_successors.ensures.in_days inv.1,
)
