use Rattle.landing_joint.proofs.StepLaws.{event_keeps_sound, step_keeps_sound, run_keeps_sound}
use Rattle.landing_joint.proofs.laws.every_step_keeps_soundness.Goals as goal

pub returns : goal.returns
returns c = record { situation = event_keeps_sound; step = step_keeps_sound; run = run_keeps_sound }
