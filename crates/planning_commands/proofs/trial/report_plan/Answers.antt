use Rattle.plan_text.specs.Trial.{trial_text}
use Rattle.planning_commands.proofs.Answering.{answers, printed}
use Rattle.planning_commands.proofs.trial.report_plan.Goals as goal

pub returns : goal.returns
returns g c =
    record {
      text = printed (trial_text c.args.n c.args.k c.args.nodes) c.new-text.result.items c.trial_summary.new.into.items
          _ _ _ _
          c.in_ok-trial_summary.ensures.ok c.new-text.ensures.items c.objective.ensures c.plan-plan.ensures.plan;
      answer = answers _ _ c.plan-plan.result c.args.sequencer.now.state.plan
          c.is_some.result c.answer-answer.result c.answer-answer.ensures c.is_some.ensures c.plan-plan.ensures.plan;
    }
