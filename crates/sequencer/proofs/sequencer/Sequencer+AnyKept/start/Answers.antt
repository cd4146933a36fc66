use Rattle.std.proofs.Common.{sym, ◌∙◌}
use Rattle.sequencer.proofs.sequencer.Sequencer+AnyKept.start.Goals as goal

pub invariant_of-result : goal.invariant_of-result
invariant_of-result g c = record {
  sound = record { situation = c.requires.sound; shown = c.in_ok-problem.ensures.shown };
  shown = c.in_ok-problem.ensures.plan;
  problem_of = c.in_ok-problem.ensures.problem;
  same_k = c.requires.same_k ∙ sym c.planned.ensures.k;
  plannable = c.requires.plannable;
}
