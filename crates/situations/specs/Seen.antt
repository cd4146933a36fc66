-- What the rules see of a situation, and what is true of each.
use Rattle.std.specs.Prelude.{◌≡◌, ◌≢◌, ◌≤◌, ℕ, List, Option, AllPairs, map, ⊤, MatchOption}
use Rattle.indexmap.specs.IndexMap.{IndexMap, keys, values}
use Rattle.landing_rules.specs.Flights as rules
use Rattle.cps_base.specs.Limits.{greatest_k, longest_freeze}
use Rattle.landing_rules.specs.Rules.{last_second}
use Rattle.situations.specs.declared.situation.Fixed.{Fixed}
use Rattle.situations.specs.declared.situation.Situation.TheInside.{Inside}

abbrev pub fixed_of : Fixed → rules.Aerodrome
fixed_of f = record { k = f.k; freeze = f.freeze; objective = f.objective; table = f.table; carry = f.carry }

-- no callsign stands twice
abbrev pub AreApart : List rules.Active → Type 0
AreApart active = AllPairs (λ a later. a.flight.callsign ≢ later.flight.callsign) active

-- as the rules see these parts
abbrev pub situation_of : Fixed → List rules.Active → List rules.Span → Option ℕ → rules.Situation
situation_of f active closures clock =
    record { aerodrome = fixed_of f; active = active; closures = closures; clock = clock }

-- each flight stands under its own callsign
abbrev pub AreKeyed : {S : Type 0} → IndexMap rules.Callsign rules.Active S → Type 0
AreKeyed m = keys m ≡ map (λ a. a.flight.callsign) (values m)

abbrev pub seen : Inside → rules.Situation
seen s = situation_of s.fixed (values s.active) s.closures s.clock

-- each flight stands under its own callsign, and the numbers are in their ranges
pub record IsInStep (s : Inside) : Type 0 where
  pub keyed : AreKeyed s.active
  pub few_places : s.fixed.k ≤ greatest_k
  pub short_freeze : s.fixed.freeze ≤ longest_freeze
  pub clock : MatchOption s.clock ⊤ (λ now. now ≤ last_second)
