-- The rules over lists of landings are those over numbers of flights.
use Rattle.std.proofs.Common.{◌≡◌, ℕ, List, [], ◌∷◌, length, map, arith, refl}
use Rattle.landing_rules.specs.Flights.{Active, Schedule, Landing, landing, landings}
use Rattle.landing_joint.specs.Numbered.{numbered, second_of, numbers_of}
use Rattle.cps_theory.specs.laws.NumberedLists.{map_numbers}

-- ---- numbers

-- the landing of each number
abbrev pub landing_at : List Active → Schedule → ℕ → Landing
landing_at all t i = landing (numbered all i) (second_of t i)

pub landings_are : (all : List Active) (t : Schedule) → length t ≡ length all
    → landings all t ≡ map (landing_at all t) (numbers_of all)
landings_are [] t e = refl
landings_are (a ∷ all) t e = grind (arith, map_numbers, landings_are all)
