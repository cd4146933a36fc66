-- The clock second and the frozen landings in the file.
use Rattle.std.specs.Prelude.{ℕ, List, [], ◌∷◌, ◌++◌, Bool, ◌+◌, nat_le, codes, bytes_eq, Option}
use Rattle.std.specs.Prelude.{Some, None, Result, Ok, Err, if◌then◌else◌}
use Rattle.std.specs.List.{list_any}
use Rattle.toml.specs.Data.{Data, Members}
use Rattle.cps_base.specs.Answers.{◌>>=◌}
use Rattle.cps_base.specs.Limits.{most_flights}
use Rattle.landing_rules.specs.Rules.{last_second}
use Rattle.arrivals.specs.declared.frozen_list.FrozenLanding.{FrozenLanding}
use Rattle.aerodrome_file.specs.declared.fault.AeroFault.{AeroFault}
use Rattle.aerodrome_file.specs.declared.fault.AeroFault.TheVariants as fault
use Rattle.aerodrome_file.specs.declared.fault.Key.TheVariants as key
use Rattle.aerodrome_file.specs.declared.fault.Part.TheVariants as part
use Rattle.aerodrome_file.specs.Values.{integer_of, within, named_number}
use Rattle.aerodrome_file.specs.Tables.{tables_in}

-- the clock second, none where the key is absent
unfoldable pub clock_in : Option Data → Result (Option ℕ) AeroFault
clock_in None = Ok None
clock_in (Some d) = do
  number ← integer_of key.Clock d
  now ← within key.Clock 0 last_second number
  Ok (Some now)

-- a landing before has this callsign
abbrev pub has_frozen : List FrozenLanding → List ℕ → Bool
has_frozen before name = list_any (λ f. bytes_eq f.callsign name) before

-- at the clock second plus freeze, or later
abbrev pub is_late : ℕ → ℕ → ℕ → Bool
is_late clock freeze second = nat_le (clock + freeze) second

-- frozen landing i, behind those before it
unfoldable pub frozen_entry : ℕ → ℕ → ℕ → List FrozenLanding → Members → Result FrozenLanding AeroFault
frozen_entry i clock freeze before ms = do
  named ← named_number (part.Frozen i) (key.FrozenCallsign i) (key.FrozenSecond i) (codes "second") ms
  at ← within (key.FrozenSecond i) 0 last_second named.1
  if has_frozen before named.0 then Err (fault.FrozenRepeat i)
      else if is_late clock freeze at then Err (fault.FrozenLate i)
      else Ok (record { callsign = named.0; second = at })

-- those before and those that tables are, from frozen landing i on
unfoldable pub frozen_from : ℕ → ℕ → ℕ → List FrozenLanding → List Members → Result (List FrozenLanding) AeroFault
frozen_from i clock freeze before [] = Ok before
frozen_from i clock freeze before (ms ∷ rest) = do
  f ← frozen_entry i clock freeze before ms
  frozen_from (i + 1) clock freeze (before ++ f ∷ []) rest

-- the frozen landings that tables are, of which there is none without a clock second
abbrev pub frozen_by : Option ℕ → ℕ → List Members → Result (List FrozenLanding) AeroFault
frozen_by (Some now) freeze tables = frozen_from 1 now freeze [] tables
frozen_by None freeze [] = Ok []
frozen_by None freeze (ms ∷ rest) = Err fault.FrozenNoClock

-- the frozen landings of the file
unfoldable pub frozen_in : Option ℕ → ℕ → Option Data → Result (List FrozenLanding) AeroFault
frozen_in clock freeze value = do
  tables ← tables_in key.Frozen most_flights fault.FrozenTooMany value
  frozen_by clock freeze tables
