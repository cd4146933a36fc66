-- What the frozen flights leave to the waiting ones.
use Rattle.std.specs.Prelude.{◌≡◌, ℕ, ◌*◌, ◌≤◌, true, List, [], ◌∷◌, length, map, filter_map, take, Option, option_map}
use Rattle.std.specs.Prelude.{Some, None, MatchOption, ⊤, nat_lt, if◌then◌else◌}
use Rattle.wake_table.specs.declared.category.Category.{Category}
use Rattle.landing_rules.specs.Flights.{Active, Landing, Situation, landing}
use Rattle.cps_base.specs.Limits.{greatest_weight}
use Rattle.landing_rules.specs.Rules.{delay, last_second}
use Rattle.landing_rules.specs.Events.{frozen_landings, in_landing_order}
use Rattle.landing_rules.specs.Text.{ShownLanding, ShownPlan, shown_landing}

abbrev pub later_at : Category → Option ℕ → Option (ℕ × Category) → Option (ℕ × Category)
later_at c None found = found
later_at c (Some second) None = Some (second, c)
later_at c (Some second) (Some next) = if nat_lt next.0 second then Some (second, c) else Some next

abbrev pub later_of : Active → Option (ℕ × Category) → Option (ℕ × Category)
later_of a found = later_at a.flight.category a.frozen found

-- the frozen landing that is last
abbrev pub latest : List Active → Option (ℕ × Category)
latest [] = None
latest (a ∷ rest) = later_of a (latest rest)

abbrev pub frozen_delay : Active → Option ℕ → ℕ
frozen_delay a None = 0
frozen_delay a (Some second) = delay (landing a second)

abbrev pub delay_of : Active → ℕ
delay_of a = frozen_delay a a.frozen

-- what a landing costs at most: the greatest weight for each second of the two days
abbrev pub greatest_delay : ℕ
greatest_delay = greatest_weight * last_second

-- a weight of at most 100, and a landing within the two days
pub record HasSmallDelay (a : Active) : Type 0 where
  pub weight : a.flight.weight ≤ greatest_weight
  pub second : MatchOption a.frozen ⊤ (λ t. t ≤ last_second)

-- the landings of the frozen flights among these, in their order
abbrev pub frozen_of : List Active → List Landing
frozen_of flights = filter_map (λ a. option_map (landing a) a.frozen) flights

-- the frozen landings as they are shown, in landing order
abbrev pub frozen_shown : Situation → List ShownLanding
frozen_shown s = map shown_landing (in_landing_order (frozen_landings s))

-- the landing, frozen where it stands
abbrev pub frozen_there : ShownLanding → ShownLanding
frozen_there l = record l { frozen = true }

-- the plan's first landings, frozen where they stand, are the frozen ones
abbrev pub BeginsWithFrozen : Situation → ShownPlan → Type 0
BeginsWithFrozen s plan = map frozen_there (take (length (frozen_shown s)) plan.landings) ≡ frozen_shown s
