-- What is printed of a plan reads back as the plan.
use Rattle.std.specs.Prelude.{◌≡◌, ◌≤◌, List, [], ◌∷◌, true, length, Some, None, Ok}
use Rattle.cps_base.specs.Text.{is_callsign}
use Rattle.cps_base.specs.Limits.{greatest_value, most_flights}
use Rattle.landing_rules.specs.Rules.{last_second}
use Rattle.landing_rules.specs.declared.objective.Objective.{Objective}
use Rattle.landing_rules.specs.Events.{State}
use Rattle.landing_rules.specs.Sound.{IsSoundState}
use Rattle.landing_rules.specs.Text.{ShownLanding, ShownPlan, block_text, plan_shown}
use Rattle.plan_file.specs.declared.plan.PlanText.TheVariants as said
use Rattle.plan_file.specs.Reading.{plan_of, plan_with}

abbrev pub AreReadable : List ShownLanding → Type 0
AreReadable [] = Unit {0}
AreReadable (f ∷ rest) = (is_callsign f.callsign ≡ true) × (f.second ≤ last_second) × AreReadable rest

-- at most 500 landings of callsigns, and all numbers in their ranges
pub record IsReadable (p : ShownPlan) : Type 0 where
  pub value : p.value ≤ greatest_value
  pub few : length p.landings ≤ most_flights
  pub landings : AreReadable p.landings

-- the block of a plan reads back as its objective, its number and its landings
abbrev pub PlanReadsBackLaw : Type 0
PlanReadsBackLaw = (o : Objective) (p : ShownPlan) → IsReadable p
    → plan_of (block_text o (Some p)) ≡ plan_with (o, p.value) p.landings

-- the block of no plan reads back as none
abbrev pub NoPlanReadsBackLaw : Type 0
NoPlanReadsBackLaw = (o : Objective) → plan_of (block_text o None) ≡ Ok said.Nothing

-- the plan that a sound state shows has its numbers in these ranges
abbrev pub ShownPlanIsReadableLaw : Type 0
ShownPlanIsReadableLaw = (state : State) (p : ShownPlan) → IsSoundState state → plan_shown state ≡ Some p → IsReadable p
