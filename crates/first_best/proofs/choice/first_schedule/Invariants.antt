use Rattle.first_best.proofs.ChoiceLemmas.{IsOrder}
use Rattle.first_best.proofs.choice.first_schedule.Given as goal

abbrev pub invariant-loop-done : goal.invariant-loop-done
invariant-loop-done l = IsOrder l.problem l.value l.done l.before l.cost l.schedule
