use Rattle.whatif.proofs.LeastLemmas.{plannable, least_some}
use Rattle.whatif.proofs.running.least_of.Goals as goal

pub least_value-requires : goal.least_value-requires
least_value-requires c = plannable c.args.situation.now c.in_ok-problem.problem c.in_ok-problem.ensures
    c.requires.plannable

pub returns : goal.returns
returns c =
    least_some c.args.situation.now c.in_ok-problem.problem c.requires.sound c.in_ok-problem.ensures
    c.problem_stands_for_situation.ensures.best c.problem_stands_for_situation.ensures.objectives c.in-Some.value
    (rw c.in-Some.is at c.in_ok-least_value.ensures)
