-- The counts of passed flights in the file.
use Rattle.std.specs.Prelude.{ℕ, List, [], ◌∷◌, ◌++◌, Bool, ◌+◌, codes, bytes_eq, Option}
use Rattle.std.specs.Prelude.{Result, Ok, Err, if◌then◌else◌}
use Rattle.std.specs.List.{list_any}
use Rattle.toml.specs.Data.{Data, Members}
use Rattle.cps_base.specs.Answers.{◌>>=◌}
use Rattle.cps_base.specs.Limits.{most_waiting}
use Rattle.arrivals.specs.declared.passed_list.PassedCount.{PassedCount}
use Rattle.aerodrome_file.specs.declared.fault.AeroFault.{AeroFault}
use Rattle.aerodrome_file.specs.declared.fault.AeroFault.TheVariants as fault
use Rattle.aerodrome_file.specs.declared.fault.Key.TheVariants as key
use Rattle.aerodrome_file.specs.declared.fault.Part.TheVariants as part
use Rattle.aerodrome_file.specs.Values.{within, named_number}
use Rattle.aerodrome_file.specs.Tables.{tables_in}

-- an entry before has this callsign
abbrev pub has_passed : List PassedCount → List ℕ → Bool
has_passed before name = list_any (λ p. bytes_eq p.callsign name) before

-- entry i, behind those before it
unfoldable pub passed_entry : ℕ → ℕ → List PassedCount → Members → Result PassedCount AeroFault
passed_entry i k before ms = do
  named ← named_number (part.Passed i) (key.PassedCallsign i) (key.PassedCount i) (codes "count") ms
  passed ← within (key.PassedCount i) 1 k named.1
  if has_passed before named.0 then Err (fault.PassedRepeat i)
      else Ok (record { callsign = named.0; count = passed })

-- those before and those that tables are, from entry i on
unfoldable pub passed_from : ℕ → ℕ → List PassedCount → List Members → Result (List PassedCount) AeroFault
passed_from i k before [] = Ok before
passed_from i k before (ms ∷ rest) = do
  p ← passed_entry i k before ms
  passed_from (i + 1) k (before ++ p ∷ []) rest

-- the entries of the file
unfoldable pub passed_in : ℕ → Option Data → Result (List PassedCount) AeroFault
passed_in k value = do
  tables ← tables_in key.Passed most_waiting fault.PassedTooMany value
  passed_from 1 k [] tables
