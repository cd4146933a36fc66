use Rattle.std.proofs.Common.{sym, ◌∙◌}
use Rattle.sequencer.proofs.Joined.{list_length, list_in_days}
use Rattle.sequencer.proofs.plan_of.joined_plan.Goals as goal

pub value_of-value-requires-clause-room : goal.value_of-value-requires-clause-room
value_of-value-requires-clause-room c = c.requires.feasible.one_each

pub value_of-value-requires-clause-seconds : goal.value_of-value-requires-clause-seconds
value_of-value-requires-clause-seconds c = list_in_days _ _ c.requires.sound c.requires.problem _ c.requires.feasible

pub plan_of-requires-clause-long : goal.plan_of-requires-clause-long
plan_of-requires-clause-long c = list_length _ _ c.requires.sound c.requires.problem _ c.requires.feasible

pub plan_of-requires-clause-feasible : goal.plan_of-requires-clause-feasible
plan_of-requires-clause-feasible c = c.problem_stands_for_situation.ensures.feasible c.args.situation.now
    c.args.problem.now c.args.schedule.now c.requires.sound c.requires.problem c.requires.feasible

pub plan_of-requires-clause-value : goal.plan_of-requires-clause-value
plan_of-requires-clause-value c = c.value_of-value.ensures ∙ sym (c.problem_stands_for_situation.ensures.objectives
    c.args.situation.now c.args.problem.now c.args.schedule.now c.requires.sound c.requires.problem c.requires.feasible)
