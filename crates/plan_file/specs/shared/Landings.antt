-- A plan shows as many landings as it has, and has at most as many as there are flights.
use Rattle.std.proofs.Common.{◌≡◌, ◌+◌, ◌≤◌, List, [], ◌∷◌, length, refl, arith}
use Rattle.std.proofs.lemmas.Bool.{cases_Bool}
use Rattle.std.proofs.lemmas.List.{length-map}
use Rattle.landing_rules.specs.Flights.{Active, Landing, Schedule, Situation, landings}
use Rattle.landing_rules.specs.Events.{insert_landing, in_landing_order}
use Rattle.landing_rules.specs.Text.{shown_plan}

length_insert : (f : Landing) (fs : List Landing) → length (insert_landing f fs) ≡ length fs + 1
length_insert f [] = refl
length_insert f (g ∷ fs) = grind (arith, cases_Bool, length_insert f fs)

length_order : (fs : List Landing) → length (in_landing_order fs) ≡ length fs
length_order [] = refl
length_order (f ∷ fs) = grind (arith, length_insert, length_order fs)

pub length_landings : (active : List Active) (t : Schedule) → length (landings active t) ≤ length active
length_landings [] t = omega arith
length_landings (a ∷ active) [] = omega arith
length_landings (a ∷ active) (x ∷ t) = let rest = length_landings active t in omega arith

pub shown_few : (s : Situation) (t : Schedule) → length (shown_plan s t).landings ≤ length s.active
shown_few s t = grind (arith, length-map, length_order, length_landings)
