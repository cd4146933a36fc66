-- The aerodrome that a text is, or its first fault, over the table that `toml` reads.
use Rattle.std.specs.Prelude.{ℕ, List, ◌==◌, length, codes, Option, Some, None, Result, Ok, Err}
use Rattle.std.specs.Prelude.{if◌then◌else◌}
use Rattle.std.specs.Str.Lossy.{utf8_valid_len}
use Rattle.toml.specs.Data.{Data, Members, get_member}
use Rattle.toml.specs.Parse.{parse_document}
use Rattle.cps_base.specs.Answers.{◌>>=◌}
use Rattle.cps_base.specs.Limits.{greatest_k, longest_freeze}
use Rattle.landing_rules.specs.declared.objective.Objective.{Objective}
use Rattle.texts.specs.Parts.{objective_in}
use Rattle.arrivals.specs.declared.aerodrome.Aerodrome.{Aerodrome}
use Rattle.aerodrome_file.specs.declared.fault.AeroFault.{AeroFault}
use Rattle.aerodrome_file.specs.declared.fault.AeroFault.TheVariants as fault
use Rattle.aerodrome_file.specs.declared.fault.Key.TheVariants as key
use Rattle.arrivals.specs.Aerodromes.{is_beyond}
use Rattle.aerodrome_file.specs.Version.{version_in}
use Rattle.aerodrome_file.specs.Values.{number_in, present, string_of}
use Rattle.aerodrome_file.specs.Separations.{table_in}
use Rattle.aerodrome_file.specs.Closures.{closures_in}
use Rattle.aerodrome_file.specs.Frozen.{clock_in, frozen_in}
use Rattle.aerodrome_file.specs.Passed.{passed_in}

-- the table that a text of UTF-8 is
unfoldable pub document : List ℕ → Option Members
document bytes = if utf8_valid_len bytes == length bytes then parse_document bytes else None

abbrev pub objective_or : Option Objective → Result Objective AeroFault
objective_or None = Err (fault.OutOfRange key.Objective)
objective_or (Some objective) = Ok objective

-- what a plan is to make least
abbrev pub objective_at : Option Data → Result Objective AeroFault
objective_at value = do
  value ← present key.Objective value
  word ← string_of key.Objective value
  objective_or (objective_in word)

-- the aerodrome that a table is
unfoldable pub aerodrome_in : Members → Result Aerodrome AeroFault
aerodrome_in ms = do
  version ← version_in ms
  k ← number_in key.K 0 greatest_k (get_member (codes "k") ms)
  freeze ← number_in key.Freeze 0 longest_freeze (get_member (codes "freeze") ms)
  objective ← objective_at (get_member (codes "objective") ms)
  rows ← table_in (get_member (codes "table") ms)
  closures ← closures_in (get_member (codes "closures") ms)
  clock ← clock_in (get_member (codes "clock") ms)
  frozen ← frozen_in clock freeze (get_member (codes "frozen") ms)
  passed ← passed_in k (get_member (codes "passed") ms)
  if is_beyond version k objective then Err (fault.DelayShift k)
      else Ok (record {
        version = version;
        k = k;
        freeze = freeze;
        objective = objective;
        table = rows;
        closures = closures;
        clock = clock;
        frozen = frozen;
        carry = version == 3;
        passed = passed;
      })

abbrev pub aerodrome_or : Option Members → Result Aerodrome AeroFault
aerodrome_or None = Err fault.NotToml
aerodrome_or (Some ms) = aerodrome_in ms

-- the aerodrome that a text is
unfoldable pub aerodrome_of : List ℕ → Result Aerodrome AeroFault
aerodrome_of bytes = aerodrome_or (document bytes)
