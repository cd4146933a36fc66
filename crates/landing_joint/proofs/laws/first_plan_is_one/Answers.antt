use Rattle.landing_joint.proofs.FirstBest.{first_plan_is_one, first_plan_is_shown, first_list_gives_plan}
use Rattle.landing_joint.proofs.laws.first_plan_is_one.Goals as goal

pub returns : goal.returns
returns c = record { one = first_plan_is_one; shown = first_plan_is_shown; list = first_list_gives_plan }
