-- The version of the file.
use Rattle.std.specs.Prelude.{◌≡◌, ◌<◌, ℕ, pos, ◌==◌, codes, Option, Some, None, Result, if◌then◌else◌}
use Rattle.toml.specs.Data.{Data, integer, Members, get_member}
use Rattle.cps_base.specs.Answers.{◌>>=◌}
use Rattle.aerodrome_file.specs.declared.fault.AeroFault.{AeroFault}
use Rattle.aerodrome_file.specs.declared.fault.Key.TheVariants as key
use Rattle.aerodrome_file.specs.declared.fault.Part.TheVariants as part
use Rattle.aerodrome_file.specs.Keys.{only_in}
use Rattle.aerodrome_file.specs.Values.{number_in}

-- the version whose keys a file has
abbrev pub version_of : Option Data → ℕ
version_of (Some (integer (pos n))) = if n == 2 then 2 else if n == 3 then 3 else 1
version_of d = 1

-- the version of a document, whose keys are those of its version
unfoldable pub version_in : Members → Result ℕ AeroFault
version_in ms = do
  _ ← only_in (version_of (get_member (codes "version") ms)) part.Top ms
  number_in key.Version 1 3 (get_member (codes "version") ms)

-- keys of later versions are absent
pub record HasKeysOf (v : ℕ) (ms : Members) : Type 0 where
  pub clock : v < 2 → get_member (codes "clock") ms ≡ None
  pub frozen : v < 2 → get_member (codes "frozen") ms ≡ None
  pub passed : v < 3 → get_member (codes "passed") ms ≡ None
