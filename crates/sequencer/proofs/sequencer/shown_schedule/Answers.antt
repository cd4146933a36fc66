use Rattle.std.proofs.Common.{sym, ap, ◌∙◌}
use Rattle.landing_rules.specs.Text.{shown_plan}
use Rattle.sequencer.proofs.Joined.{list_length, list_in_days}
use Rattle.sequencer.proofs.sequencer.shown_schedule.Goals as goal

pub joined_seconds-requires-clause-long : goal.joined_seconds-requires-clause-long
joined_seconds-requires-clause-long c = list_length _ _
    c.requires.sound c.requires.problem _ c.requires.answer.0.feasible

pub value_of-value-requires-clause-room : goal.value_of-value-requires-clause-room
value_of-value-requires-clause-room c = c.requires.answer.0.feasible.one_each

pub value_of-value-requires-clause-seconds : goal.value_of-value-requires-clause-seconds
value_of-value-requires-clause-seconds c = list_in_days _ _
    c.requires.sound c.requires.problem _ c.requires.answer.0.feasible

pub plan_of-requires-clause-long : goal.plan_of-requires-clause-long
plan_of-requires-clause-long c = list_length _ _ c.requires.sound c.requires.problem _ c.requires.answer.0.feasible

pub plan_of-requires-clause-feasible : goal.plan_of-requires-clause-feasible
plan_of-requires-clause-feasible c = c.problem_stands_for_situation.ensures.feasible c.args.situation.now
    c.args.problem.now c.args.schedule.now c.requires.sound c.requires.problem c.requires.answer.0.feasible

pub plan_of-requires-clause-value : goal.plan_of-requires-clause-value
plan_of-requires-clause-value c = c.value_of-value.ensures
    ∙ sym (c.problem_stands_for_situation.ensures.objectives c.args.situation.now c.args.problem.now
    c.args.schedule.now c.requires.sound c.requires.problem c.requires.answer.0.feasible)

pub returns-clause-plan : goal.returns-clause-plan
returns-clause-plan c = c.in_ok-plan.ensures ∙ ap (shown_plan c.args.situation.now) (sym c.in_ok-seconds.ensures)

pub returns-clause-shown : goal.returns-clause-shown
returns-clause-shown c =
    let s = c.args.situation.now in
    let p = c.args.problem.now in
    let t = c.args.schedule.now in
    rw c.in_ok-seconds.ensures (
      c.problem_stands_for_situation.ensures.best s p t c.requires.sound c.requires.problem c.requires.answer.0,
      c.problem_stands_for_situation.ensures.tight s p t c.requires.sound c.requires.problem c.requires.answer.1,
    )
