-- The values at the keys of the file.
use Rattle.std.specs.Prelude.{ℕ, List, ℤ, pos, negsuc, ◌&&◌, nat_le, codes, Option, Some, None, Result, Ok, Err}
use Rattle.std.specs.Prelude.{if◌then◌else◌}
use Rattle.toml.specs.Data.{Data, string, integer, Members, get_member}
use Rattle.cps_base.specs.Answers.{◌>>=◌}
use Rattle.cps_base.specs.Text.{is_callsign}
use Rattle.aerodrome_file.specs.declared.fault.AeroFault.{AeroFault}
use Rattle.aerodrome_file.specs.declared.fault.AeroFault.TheVariants as fault
use Rattle.aerodrome_file.specs.declared.fault.Key.{Key}
use Rattle.aerodrome_file.specs.declared.fault.Part.{Part}
use Rattle.aerodrome_file.specs.Keys.{only}

-- the value, where there is one
abbrev pub present : Key → Option Data → Result Data AeroFault
present k (Some d) = Ok d
present k None = Err (fault.MissingKey k)

-- the integer that a value is
abbrev pub integer_of : Key → Data → Result ℤ AeroFault
integer_of k (integer z) = Ok z
integer_of k d = Err (fault.WrongKind k)

-- the number from least to most that an integer is
abbrev pub within : Key → ℕ → ℕ → ℤ → Result ℕ AeroFault
within k least most (pos n) = if nat_le least n && nat_le n most then Ok n else Err (fault.OutOfRange k)
within k least most (negsuc n) = Err (fault.OutOfRange k)

-- the text that a value is
abbrev pub string_of : Key → Data → Result (List ℕ) AeroFault
string_of k (string text) = Ok text
string_of k d = Err (fault.WrongKind k)

-- the callsign that a text is
abbrev pub callsign_at : Key → List ℕ → Result (List ℕ) AeroFault
callsign_at k text = if is_callsign text then Ok text else Err (fault.OutOfRange k)

-- the integer of a key, from least to most
abbrev pub number_in : Key → ℕ → ℕ → Option Data → Result ℕ AeroFault
number_in k least most value = do
  value ← present k value
  number ← integer_of k value
  within k least most number

-- the callsign and the integer of an entry, each at its key
unfoldable pub named_number : Part → Key → Key → List ℕ → Members → Result (List ℕ × ℤ) AeroFault
named_number p name_key number_key word ms = do
  _ ← only p ms
  callsign ← present name_key (get_member (codes "callsign") ms)
  number ← present number_key (get_member word ms)
  text ← string_of name_key callsign
  number ← integer_of number_key number
  callsign ← callsign_at name_key text
  Ok (callsign, number)
