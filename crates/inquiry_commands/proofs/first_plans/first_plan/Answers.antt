use Rattle.inquiry_commands.proofs.FirstPlans.{first_shown, first_value, shown_least}
use Rattle.inquiry_commands.proofs.first_plans.first_plan.Goals as goal

pub first_schedule-requires-clause-value : goal.first_schedule-requires-clause-value
first_schedule-requires-clause-value c =
    let s = c.args.sequencer.now in
    let laws = c.problem_stands_for_situation.ensures in
    rw (c.value-value.ensures, c.problem-problem.ensures.value)
    (shown_least laws.feasible laws.every laws.objectives s.state s.problem c.problem-problem.ensures.sound.situation
    c.problem-problem.ensures.problem c.plan.ensures.shown c.in-Some.shown.now c.in-Some.ensures.plan)

pub returns-in_ok-plan-in-Some-clause-first : goal.returns-in_ok-plan-in-Some-clause-first
returns-in_ok-plan-in-Some-clause-first c =
    let s = c.args.sequencer.now in
    let laws = c.problem_stands_for_situation.ensures in
    first_shown laws.feasible laws.every laws.objectives s.state s.problem c.problem-problem.ensures.sound.situation
    c.problem-problem.ensures.problem c.first_best_schedule_is_one.ensures.list c.in_ok-schedule-in-Some.schedule
    (rw c.problem-problem.ensures.value at c.in_ok-schedule-in-Some.ensures) c.in_ok-plan-in-Some.plan
    c.in_ok-plan-in-Some.ensures

pub returns-in_ok-plan-in-Some-clause-value : goal.returns-in_ok-plan-in-Some-clause-value
returns-in_ok-plan-in-Some-clause-value c =
    let s = c.args.sequencer.now in
    let laws = c.problem_stands_for_situation.ensures in
    let one = c.first_best_schedule_is_one.ensures in
    first_value laws.feasible laws.every laws.objectives s.state s.problem c.problem-problem.ensures.sound.situation
    c.problem-problem.ensures.problem one.list one.objective c.plan.ensures.shown c.in_ok-schedule-in-Some.schedule
    (rw c.problem-problem.ensures.value at c.in_ok-schedule-in-Some.ensures) c.in_ok-plan-in-Some.plan
    c.in-Some.shown.now c.in_ok-plan-in-Some.ensures c.in-Some.ensures.plan
