-- The arrays of tables in the file.
use Rattle.std.specs.Prelude.{ℕ, suc, List, [], ◌∷◌, Bool, true, ◌&&◌, not, is_some, nat_lt, Option, Some, None}
use Rattle.std.specs.Prelude.{Result, Ok, Err, if◌then◌else◌}
use Rattle.toml.specs.Data.{Data, array, Items, no_items, item, Members, as_table}
use Rattle.aerodrome_file.specs.declared.fault.AeroFault.{AeroFault}
use Rattle.aerodrome_file.specs.declared.fault.AeroFault.TheVariants as fault
use Rattle.aerodrome_file.specs.declared.fault.Key.{Key}

-- how many values an array has
abbrev pub items_length : Items → ℕ
items_length no_items = 0
items_length (item d ds) = suc (items_length ds)

-- all values of an array are tables
abbrev pub are_tables : Items → Bool
are_tables no_items = true
are_tables (item d ds) = is_some (as_table d) && are_tables ds

abbrev pub with_table : Option Members → List Members → List Members
with_table None rest = rest
with_table (Some ms) rest = ms ∷ rest

-- the tables of an array
abbrev pub tables_of : Items → List Members
tables_of no_items = []
tables_of (item d ds) = with_table (as_table d) (tables_of ds)

-- the tables at a key, or the fault where there are more than so many; none where the key is absent
abbrev pub tables_in : Key → ℕ → AeroFault → Option Data → Result (List Members) AeroFault
tables_in k most too_many None = Ok []
tables_in k most too_many (Some (array ds)) =
    if not (are_tables ds) then Err (fault.WrongKind k)
    else if nat_lt most (items_length ds) then Err too_many
    else Ok (tables_of ds)
tables_in k most too_many (Some d) = Err (fault.WrongKind k)
