-- The plan that a sound state shows has its callsigns and numbers in the ranges of a printed plan.
use Rattle.std.proofs.Common.{rules, ◌≡◌, ◌≤◌, true, List, [], ◌∷◌, Option, Some, map, arith}
use Rattle.std.specs.Prelude.{All, option_map}
use Rattle.std.proofs.lemmas.List.Elements.{All-head, All-tail}
use Rattle.cps_base.specs.Text.{is_callsign}
use Rattle.landing_rules.specs.Flights.{Active, Situation, Schedule, Landing, landings}
use Rattle.landing_rules.specs.Rules.{last_second}
use Rattle.landing_rules.specs.Events.{State, insert_landing, in_landing_order, IsPlanShown}
use Rattle.landing_rules.specs.Sound.{IsGoodFlight, IsSound, IsSoundState}
use Rattle.landing_rules.specs.Text.{ShownPlan, shown_landing, shown_plan, plan_shown}
use Rattle.plan_file.specs.Printed.{AreReadable, IsReadable}
use Rattle.plan_file.specs.shared.Landings.{shown_few}
use Rattle.plan_file.specs.shared.Objectives.{schedule_low}

-- ---- landings of callsigns at seconds of the two days

abbrev IsTold : Landing → Type 0
IsTold f = (is_callsign f.flight.callsign ≡ true) × (f.second ≤ last_second)

abbrev AreTold : List Landing → Type 0
AreTold [] = Unit {0}
AreTold (f ∷ fs) = IsTold f × AreTold fs

told_insert : (f : Landing) (fs : List Landing) → IsTold f → AreTold fs → AreTold (insert_landing f fs)
told_insert f [] h k = (h, tt)
told_insert f (g ∷ fs) h k = grind (arith, told_insert f fs h k.1)

told_order : (fs : List Landing) → AreTold fs → AreTold (in_landing_order fs)
told_order [] h = tt
told_order (f ∷ fs) h = told_insert f (in_landing_order fs) h.0 (told_order fs h.1)

readable : (fs : List Landing) → AreTold fs → AreReadable (map shown_landing fs)
readable [] h = tt
readable (f ∷ fs) h = (h.0.0, h.0.1, readable fs h.1)

abbrev AreGood : List Active → Type 0
AreGood active = All (λ (a : Active). IsGoodFlight a.flight) active

abbrev InDays : List Landing → Type 0
InDays all = All (λ (f : Landing). f.second ≤ last_second) all

told_landings : (active : List Active) (t : Schedule) → AreGood active → InDays (landings active t)
    → AreTold (landings active t)
told_landings [] t g d = tt
told_landings (a ∷ rest) [] g d = tt
told_landings (a ∷ rest) (x ∷ t) g d =
    let own : IsGoodFlight a.flight = All-head (λ (b : Active). IsGoodFlight b.flight) a rest g in
    let here : x ≤ last_second = All-head (λ (f : Landing). f.second ≤ last_second) _ (landings rest t) d in (
      (own.callsign, here),
      told_landings rest t (All-tail (λ (b : Active). IsGoodFlight b.flight) a rest g)
          (All-tail (λ (f : Landing). f.second ≤ last_second) _ (landings rest t) d),
    )

-- what is shown of a sound situation
plan_readable : (s : Situation) (t : Option Schedule) (p : ShownPlan) → IsSound s → IsPlanShown s t
    → option_map (shown_plan s) t ≡ Some p → IsReadable p
plan_readable s t p h k e = grind (arith, shown_few, schedule_low, readable, told_order, told_landings)

pub shown_readable : (state : State) (p : ShownPlan) → IsSoundState state → plan_shown state ≡ Some p → IsReadable p
shown_readable state p h e = search (rules, plan_readable)
