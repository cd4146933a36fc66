-- What a clock event makes of the entries, one by one.
use Rattle.std.specs.Prelude.{◌≡◌, ℕ, ◌+◌, min, true, List, [], ◌∷◌, ◌&&◌, Some, map, filter, count_by, nat_lt}
use Rattle.std.specs.Prelude.{if◌then◌else◌}
use Rattle.std.specs.Ordering.{is_lt}
use Rattle.landing_rules.specs.Flights.{Callsign, Flight, Active, Aerodrome, Schedule, Landing, landings, is_waiting}
use Rattle.landing_rules.specs.Rules.{first_come_cmp}
use Rattle.landing_rules.specs.Events.{freezes}
use Rattle.situations.specs.declared.freeze.Freeze.{Freeze}

-- what first-come order compares
abbrev pub arrival : Flight → ℕ × Callsign
arrival f = (f.eta, f.callsign)

-- the waiting flights that land before h
abbrev pub freezing : ℕ → List Active → Schedule → List (ℕ × Callsign)
freezing h active t = map (λ (g : Landing). arrival g.flight) (filter (freezes h) (landings active t))

-- the landing's flight, if it is one of them
abbrev pub arrival_if : ℕ → Landing → List (ℕ × Callsign)
arrival_if h f = if freezes h f then arrival f.flight ∷ [] else []

-- how many of these come behind the flight
abbrev pub behind : List (ℕ × Callsign) → Active → ℕ
behind others a = count_by (λ g. is_lt (first_come_cmp (arrival a.flight) g)) others

-- how many flights have passed the flight where it stays waiting
abbrev pub count_after : Freeze → Active → ℕ
count_after z a = if z.carry then min z.k (a.passed + behind z.freezing.items a) else a.passed

-- the flight, frozen at its second where it waits and lands before the horizon
abbrev pub frozen_one : Freeze → Active → ℕ → Active
frozen_one z a at =
    if is_waiting a && nat_lt at z.h then record a { frozen = Some at; passed = 0 }
    else (if is_waiting a then record a { passed = count_after z a } else a)

-- what a clock event with this plan shown brings
pub record IsFreezeOf (a : Aerodrome) (h : ℕ) (active : List Active) (t : Schedule) (z : Freeze) : Type 0 where
  pub horizon : z.h ≡ h
  pub most : z.k ≡ a.k
  pub carry : z.carry ≡ a.carry
  pub freezing : z.carry ≡ true → z.freezing.items ≡ freezing h active t
