use Rattle.landing_rules.specs.Text.{block_text}
use Rattle.planning_commands.proofs.Answering.{answers, printed}
use Rattle.planning_commands.proofs.plan.report_plan.Goals as goal

pub returns : goal.returns
returns g c =
    record {
      text = printed block_text c.new-text.result.items c.plan_block.new.into.items _ _ _ _
          c.in_ok-plan_block.ensures.ok c.new-text.ensures.items c.objective.ensures c.plan.ensures.plan;
      answer = answers _ _ c.plan-2.result c.args.sequencer.now.state.plan
          c.is_some.result c.answer-answer.result c.answer-answer.ensures c.is_some.ensures c.plan-2.ensures.plan;
    }
