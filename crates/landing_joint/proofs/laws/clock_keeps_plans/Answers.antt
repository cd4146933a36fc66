use Rattle.landing_joint.proofs.Clock.{clock_keeps_plan, clock_shows_plan, clock_keeps_sound}
use Rattle.landing_joint.proofs.laws.clock_keeps_plans.Goals as goal

pub returns : goal.returns
returns c = record { keeps = clock_keeps_plan; shows = clock_shows_plan; sound = clock_keeps_sound }
