-- A flight that is passed by two at k = 2, and then by a third, since another comes to stand ahead of it.
use Rattle.std.specs.Prelude.{ℕ, ◌∷◌, [], List, Some, codes, None, true}
use Rattle.wake_table.specs.declared.category.Category.TheVariants.{F}
use Rattle.landing_rules.specs.declared.objective.Objective.TheVariants.{Makespan}
use Rattle.landing_rules.specs.Flights.{Flight, Situation, Schedule}
use Rattle.landing_rules.specs.Events.{newcomer, situation_after, Add, Clock, State}
use Rattle.landing_rules.specs.Examples.{sample, one_window}

abbrev pub light : List ℕ → ℕ → Flight
light callsign eta = one_window callsign F eta (eta, 3000)

-- with the carry, X1 first in first-come order
abbrev pub line : Situation
line = record {
  aerodrome = record (sample 2 Makespan) { carry = true };
  active = newcomer (light (codes "X1") 1000) ∷ newcomer (light (codes "Y1") 1001) ∷ newcomer (light (codes "Y2") 1002)
      ∷ [];
  closures = [];
  clock = None;
}

-- Y1 and Y2 land first, and freeze
abbrev pub passed_plan : Schedule
passed_plan = 1200 ∷ 1010 ∷ 1070 ∷ []

abbrev pub passed_line : Situation
passed_line = situation_after line (Some passed_plan) (Clock 950)

-- Y3 comes behind X1
abbrev pub longer_line : Situation
longer_line = situation_after passed_line None (Add (light (codes "Y3") 1100))

-- and Z1 ahead of it
abbrev pub newcomer_ahead : Situation
newcomer_ahead = situation_after longer_line None (Add (light (codes "Z1") 900))

-- Y3 lands before X1
abbrev pub again_plan : Schedule
again_plan = 1260 ∷ 1010 ∷ 1070 ∷ 1200 ∷ []

abbrev pub newcomer_plan : Schedule
newcomer_plan = 1260 ∷ 1010 ∷ 1070 ∷ 1200 ∷ 1320 ∷ []

abbrev pub shown : Situation → Schedule → State
shown s t = record { situation = s; plan = Some t }
