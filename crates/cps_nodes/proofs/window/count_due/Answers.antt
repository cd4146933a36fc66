use Rattle.std.proofs.Common.{arith}
use Rattle.std.proofs.lemmas.Int.{ints}
use Rattle.cps_nodes.proofs.WindowLemmas.{held, not_held}
use Rattle.cps_nodes.proofs.HeldLemmas.{all_due, one_due}
use Rattle.cps_nodes.proofs.window.count_due.Goals as goal

pub returns-then-has_rank-clause-due : goal.returns-then-has_rank-clause-due
returns-then-has_rank-clause-due g c = λ xs is are j lt. all_due g.row.W xs is j lt
    (held _ xs _ _ (c.has_rank.ensures xs are) c.if-has_rank.true (omega (arith, ints, is.is_width)))

pub returns-else-has_rank-clause-due : goal.returns-else-has_rank-clause-due
returns-else-has_rank-clause-due g c = λ xs is are j lt. one_due g.row.W xs is j lt
    (not_held _ xs _ _ (c.has_rank.ensures xs are) c.if-has_rank.false (omega (arith, ints, is.is_width)))
