-- The keys that each part of the file has.
use Rattle.std.specs.Prelude.{List, ℕ, Bool, ◌&&◌, ◌||◌, nat_le, is_some, codes, bytes_eq, Result, Ok, Err}
use Rattle.std.specs.Prelude.{if◌then◌else◌}
use Rattle.toml.specs.Data.{Members, no_members, member}
use Rattle.wake_table.specs.Letters.{category_of}
use Rattle.aerodrome_file.specs.declared.fault.AeroFault.{AeroFault}
use Rattle.aerodrome_file.specs.declared.fault.AeroFault.TheVariants as fault
use Rattle.aerodrome_file.specs.declared.fault.Part.{Part}
use Rattle.aerodrome_file.specs.declared.fault.Part.TheVariants as part
use Rattle.aerodrome_file.specs.KeyText.{key_text}

-- of the document in each version
abbrev pub is_first_key : List ℕ → Bool
is_first_key k =
    ((((bytes_eq k (codes "version") || bytes_eq k (codes "k")) || bytes_eq k (codes "freeze"))
    || bytes_eq k (codes "objective"))
    || bytes_eq k (codes "table")) || bytes_eq k (codes "closures")

-- of the document in a version
abbrev pub is_top_key : ℕ → List ℕ → Bool
is_top_key version k =
    (is_first_key k || (nat_le 2 version && (bytes_eq k (codes "clock") || bytes_eq k (codes "frozen"))))
    || (nat_le 3 version && bytes_eq k (codes "passed"))

-- of the table of separations
abbrev pub is_letter : List ℕ → Bool
is_letter k = is_some (category_of k)

-- of any part
abbrev pub is_known : ℕ → Part → List ℕ → Bool
is_known v part.Top k = is_top_key v k
is_known v part.Table k = is_letter k
is_known v (part.Closure i) k = bytes_eq k (codes "from") || bytes_eq k (codes "to")
is_known v (part.Frozen i) k = bytes_eq k (codes "callsign") || bytes_eq k (codes "second")
is_known v (part.Passed i) k = bytes_eq k (codes "callsign") || bytes_eq k (codes "count")

-- nothing, where each key is one that this part may have in a version; else the first other, in byte order, is a fault
unfoldable pub only_in : ℕ → Part → Members → Result (Unit {0}) AeroFault
only_in v p no_members = Ok (tt {0})
only_in v p (member k d ms) = if is_known v p k then only_in v p ms else Err (fault.UnknownKey p (key_text k))

-- the same of a part other than the document: its keys are the same in each version
abbrev pub only : Part → Members → Result (Unit {0}) AeroFault
only p ms = only_in 1 p ms
