use Rattle.inquiry_commands.proofs.FirstLaws.{costs_as_plan}
use Rattle.inquiry_commands.proofs.first_laws.first_costs_as_every_plan.Goals as goal

pub returns : goal.returns
returns c = costs_as_plan c.first_best_schedule_is_one.ensures.objective
