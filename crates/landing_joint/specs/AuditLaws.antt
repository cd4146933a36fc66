-- What is found in a plan block, and where nothing is.
use Rattle.std.specs.Prelude.{◌≡◌, ◌↔◌, [], Some}
use Rattle.landing_rules.specs.Flights.{Situation}
use Rattle.landing_rules.specs.Events.{State}
use Rattle.landing_rules.specs.Text.{ShownPlan, plan_shown}
use Rattle.landing_rules.specs.Sound.{IsSound, IsSoundState}
use Rattle.landing_rules.specs.Audit.{Block, IsClean, findings}

-- nothing is found exactly where the block is that of a feasible schedule
abbrev pub AuditLaw : Type 0
AuditLaw = (s : Situation) (b : Block) → IsSound s → (findings s b ≡ []) ↔ IsClean s b

-- a plan that a sound state shows, under its objective
abbrev pub shown_block : State → ShownPlan → Block
shown_block state plan = record { objective = state.situation.aerodrome.objective; plan = plan }

-- nothing is found in it
abbrev pub ShownPlanIsCleanLaw : Type 0
ShownPlanIsCleanLaw = (state : State) (plan : ShownPlan) → IsSoundState state → plan_shown state ≡ Some plan →
    findings state.situation (shown_block state plan) ≡ []
