-- The closures in the file.
use Rattle.std.specs.Prelude.{ℕ, List, [], ◌∷◌, ◌+◌, nat_le, codes, Option, Result, Ok, Err, if◌then◌else◌}
use Rattle.toml.specs.Data.{Data, Members, get_member}
use Rattle.cps_base.specs.Answers.{◌>>=◌}
use Rattle.cps_base.specs.Limits.{most_closures}
use Rattle.landing_rules.specs.Rules.{last_second}
use Rattle.landing_windows.specs.declared.closures.ClosureFault.TheVariants as closure
use Rattle.aerodrome_file.specs.declared.fault.AeroFault.{AeroFault}
use Rattle.aerodrome_file.specs.declared.fault.AeroFault.TheVariants as fault
use Rattle.aerodrome_file.specs.declared.fault.Key.TheVariants as key
use Rattle.aerodrome_file.specs.declared.fault.Part.TheVariants as part
use Rattle.aerodrome_file.specs.Keys.{only}
use Rattle.aerodrome_file.specs.Values.{present, integer_of, within}
use Rattle.aerodrome_file.specs.Tables.{tables_in}

-- the two seconds of closure i
unfoldable pub closure_in : ℕ → Members → Result (ℕ × ℕ) AeroFault
closure_in i ms = do
  _ ← only (part.Closure i) ms
  from ← present (key.From i) (get_member (codes "from") ms)
  to ← present (key.To i) (get_member (codes "to") ms)
  first ← integer_of (key.From i) from
  last ← integer_of (key.To i) to
  first ← within (key.From i) 0 last_second first
  last ← within (key.To i) 0 (last_second + 1) last
  Ok (first, last)

-- the closures that tables are, from closure i on
unfoldable pub closures_from : ℕ → List Members → Result (List (ℕ × ℕ)) AeroFault
closures_from i [] = Ok []
closures_from i (ms ∷ rest) = do
  c ← closure_in i ms
  _ ← (if nat_le c.1 c.0 then Err (fault.Closure i closure.Empty) else Ok (tt {0}))
  cs ← closures_from (i + 1) rest
  Ok (c ∷ cs)

-- the closures of the file
unfoldable pub closures_in : Option Data → Result (List (ℕ × ℕ)) AeroFault
closures_in value = do
  tables ← tables_in key.Closures most_closures (fault.Closure (most_closures + 1) closure.TooMany) value
  closures_from 1 tables
