-- The aerodromes that a file can give. Tables and closures are good ones by their types.
use Rattle.std.specs.Prelude.{◌≡◌, ◌≢◌, ◌≤◌, ◌<◌, ℕ, List, [], Bool, true, false, ◌==◌, ◌&&◌, ◌+◌, nat_lt, length}
use Rattle.std.specs.Prelude.{Option, Some, None, All, AllPairs, if◌then◌else◌}
use Rattle.cps_base.specs.Limits.{greatest_delay_k, greatest_k, longest_freeze, most_flights, most_waiting}
use Rattle.landing_rules.specs.Rules.{last_second}
use Rattle.landing_rules.specs.declared.objective.Objective.{Objective}
use Rattle.landing_rules.specs.declared.objective.Objective.TheVariants.{Makespan, Delay}
use Rattle.arrivals.specs.declared.aerodrome.Aerodrome.{Aerodrome}
use Rattle.arrivals.specs.declared.frozen_list.FrozenLanding.{FrozenLanding}
use Rattle.arrivals.specs.declared.passed_list.PassedCount.{PassedCount}

-- ---- the version of the file, and the shift that an objective takes in it

abbrev pub IsVersion : ℕ → Type 0
IsVersion v = (1 ≤ v) × (v ≤ 3)

abbrev pub is_delay : Objective → Bool
is_delay Makespan = false
is_delay Delay = true

-- the greatest shift that delay takes in a version
abbrev pub most_shift : ℕ → ℕ
most_shift version = if version == 1 then 1 else greatest_delay_k

-- the objective does not take this shift in the version
abbrev pub is_beyond : ℕ → ℕ → Objective → Bool
is_beyond version k objective = is_delay objective && nat_lt (most_shift version) k

-- ---- the clock, the frozen landings and the counts

-- a second of the two days, or none
abbrev pub IsClock : Option ℕ → Type 0
IsClock None = Unit {0}
IsClock (Some now) = now ≤ last_second

-- a second of the two days, before the clock second plus freeze
pub record IsFrozen (clock freeze : ℕ) (f : FrozenLanding) : Type 0 where
  pub range : f.second ≤ last_second
  pub early : f.second < clock + freeze

-- at most 500 of these, with different callsigns
pub record AreFrozen (clock freeze : ℕ) (fs : List FrozenLanding) : Type 0 where
  pub few : length fs ≤ most_flights
  pub seconds : All (IsFrozen clock freeze) fs
  pub callsigns : AllPairs (λ f later. f.callsign ≢ later.callsign) fs

-- none without a clock second
abbrev pub AreFrozenBy : Option ℕ → ℕ → List FrozenLanding → Type 0
AreFrozenBy None freeze fs = fs ≡ []
AreFrozenBy (Some now) freeze fs = AreFrozen now freeze fs

-- no more counts than flights may wait, from 1 to k, of different callsigns
pub record ArePassed (k : ℕ) (ps : List PassedCount) : Type 0 where
  pub few : length ps ≤ most_waiting
  pub counts : All (λ p. (1 ≤ p.count) × (p.count ≤ k)) ps
  pub callsigns : AllPairs (λ p later. p.callsign ≢ later.callsign) ps

-- ---- all of it

-- numbers in their ranges, a shift that the objective takes, and nothing that the version does not have
pub record IsInRange (a : Aerodrome) : Type 0 where
  pub version : IsVersion a.version
  pub k : a.k ≤ greatest_k
  pub freeze : a.freeze ≤ longest_freeze
  pub shift : is_delay a.objective ≡ true → a.k ≤ most_shift a.version
  pub clock : IsClock a.clock
  pub frozen : AreFrozenBy a.clock a.freeze a.frozen
  pub carry : a.carry ≡ (a.version == 3)
  pub passed : ArePassed a.k a.passed
  pub no_clock : a.version < 2 → a.clock ≡ None
  pub none_frozen : a.version < 2 → a.frozen ≡ []
  pub none_passed : a.carry ≡ false → a.passed ≡ []
