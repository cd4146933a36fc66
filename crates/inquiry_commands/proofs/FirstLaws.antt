-- From the clause of a printed first plan to the laws of its text.
use Rattle.std.proofs.Common.{◌≡◌, ◌≤◌, Option, Some, None, length, map, refl, sym, ap, subst, ◌∙◌, arith}
use Rattle.std.specs.Prelude.{option_map}
use Rattle.landing_rules.specs.Flights.{Situation, Schedule}
use Rattle.landing_rules.specs.Rules.{objective}
use Rattle.landing_rules.specs.Events.{IsPlanShown, opening_situation}
use Rattle.landing_rules.specs.FirstBest.{IsFirstPlan}
use Rattle.landing_joint.specs.FirstBestLaws.{FirstBestObjectiveLaw, FirstPlanIsOneLaw, FirstPlanIsShownLaw}
use Rattle.arrivals.specs.Seen.{flight_of}
use Rattle.sequencer.specs.Opened.{opening_of}
use Rattle.endings.specs.shared.Files.{same_two}
use Rattle.openings.specs.shared.OpenedFlights.{as_many}
use Rattle.text_bounds.specs.Blocks.{BlockIsBoundedLaw, block_bound}
use Rattle.text_bounds.specs.Counts.{count_in}
use Rattle.inquiry_commands.specs.First.{FirstCostsAsPlanLaw, FirstIsBoundedLaw, FirstTextIsOneLaw, ShowsFirst}

pub text_is_one : FirstPlanIsOneLaw → FirstTextIsOneLaw
text_is_one law a f text other answer another p q =
    let here = p.holds in
    let there = same_two a f _ p _ q (λ b fs. ShowsFirst b fs other another) q.holds in
    let s : here.state.situation ≡ there.state.situation =
    here.opened.opens.situation ∙ sym there.opened.opens.situation in
    let plan : here.block.plan ≡ there.block.plan =
    law here.state.situation here.block.plan there.block.plan here.opened.sound.situation here.block.first
    (subst (λ (x : Situation). IsFirstPlan x there.block.plan) (sym s) there.block.first) in
    (cc (here.block.prints, there.block.prints), cc (here.block.answers, there.block.answers))

-- a first plan costs what a plan costs that may be shown
costs : FirstBestObjectiveLaw → (s : Situation) (x y : Option Schedule) → IsFirstPlan s x → IsPlanShown s y →
    option_map (objective s) x ≡ option_map (objective s) y
costs law s None None a b = refl
costs law s None (Some u) a b = absurd (a u b.0.feasible)
costs law s (Some t) None a b = absurd (b t a.best.feasible)
costs law s (Some t) (Some u) a b = ap Some (law s t u a b.0)

pub costs_as_plan : FirstBestObjectiveLaw → FirstCostsAsPlanLaw
costs_as_plan law a f text other answer another p q =
    let planned = q.holds in
    let s : planned.state.situation ≡ p.holds.state.situation =
    same_two a f _ p _ q (λ b fs. planned.state.situation ≡ opening_situation (opening_of b) (map flight_of fs))
    planned.opened.opens.situation ∙ sym p.holds.opened.opens.situation in
    costs law p.holds.state.situation p.holds.block.plan planned.state.plan p.holds.block.first
    (subst (λ (x : Situation). IsPlanShown x planned.state.plan) s planned.opened.opens.shown)
    ∙ ap (λ (x : Situation). option_map (objective x) planned.state.plan) (sym s)

pub first_short : BlockIsBoundedLaw → FirstPlanIsShownLaw → FirstIsBoundedLaw
first_short law shown a f text answer x =
    let s = x.holds.state.situation in
    let plan = x.holds.block.plan in
    let block = law (record { situation = s; plan = plan })
    (record { situation = x.holds.opened.sound.situation; shown = shown s plan x.holds.block.first }) in
    let active = as_many x.aerodrome x.flights s x.holds.opened.opens.situation in
    let long = ap length x.holds.block.prints in
    subst (λ r. length text ≤ block_bound (count_in r)) (sym x.flights_read) (omega (arith, block, active, long))
