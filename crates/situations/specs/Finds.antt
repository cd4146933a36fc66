-- What a search of the active flights finds.
use Rattle.std.specs.Prelude.{ℕ, List, [], ◌∷◌, Option, Some, None, ◌&&◌, option_map, find, is_some, nat_le}
use Rattle.std.specs.Prelude.{if◌then◌else◌}
use Rattle.landing_rules.specs.Flights.{Active, Callsign, Span}
use Rattle.landing_rules.specs.Rules.{lists, is_shut}

-- the first frozen flight that lists c
abbrev pub first_frozen_listing : Callsign → List Active → Option Callsign
first_frozen_listing c active =
    option_map (λ a. a.flight.callsign) (find (λ a. is_some a.frozen && lists a.flight c) active)

abbrev pub earlier_at : Span → Callsign → Option ℕ → Option (Callsign × ℕ) → Option (Callsign × ℕ)
earlier_at span c None found = found
earlier_at span c (Some second) None = if is_shut second span then Some (c, second) else None
earlier_at span c (Some second) (Some next) = if is_shut second span && nat_le second next.1
    then Some (c, second) else Some next

abbrev pub earlier_of : Span → Active → Option (Callsign × ℕ) → Option (Callsign × ℕ)
earlier_of span a found = earlier_at span a.flight.callsign a.frozen found

-- the frozen landing in the closure that lands first
abbrev pub earliest_covered : Span → List Active → Option (Callsign × ℕ)
earliest_covered span [] = None
earliest_covered span (a ∷ rest) = earlier_of span a (earliest_covered span rest)
