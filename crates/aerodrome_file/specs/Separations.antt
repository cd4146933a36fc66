-- The table of separations in the file.
use Rattle.std.specs.Prelude.{ℕ, ℤ, pos, negsuc, List, [], ◌∷◌, ◌+◌, ◌==◌, min, Option, Some, None, Result, Ok, Err}
use Rattle.std.specs.Prelude.{if◌then◌else◌}
use Rattle.toml.specs.Data.{Data, array, table, Items, no_items, item, Members, get_member}
use Rattle.wake_table.specs.declared.category.Category.{Category}
use Rattle.wake_table.specs.Letters.{letters, letter_text, category_count}
use Rattle.wake_table.specs.Table.{greatest_separation, table_of}
use Rattle.wake_table.specs.declared.table.TableFault.{TableFault}
use Rattle.cps_base.specs.Answers.{◌>>=◌}
use Rattle.aerodrome_file.specs.declared.fault.AeroFault.{AeroFault}
use Rattle.aerodrome_file.specs.declared.fault.AeroFault.TheVariants as fault
use Rattle.aerodrome_file.specs.declared.fault.Key.TheVariants as key
use Rattle.aerodrome_file.specs.declared.fault.Part.TheVariants as part
use Rattle.aerodrome_file.specs.Keys.{only}
use Rattle.aerodrome_file.specs.Tables.{items_length}
use Rattle.aerodrome_file.specs.Values.{integer_of}

-- an entry of the table, where one second above the greatest separation stands for all above it, and 0 for all below 1
abbrev pub second_of : ℤ → ℕ
second_of (pos n) = min n (greatest_separation + 1)
second_of (negsuc n) = 0

-- the entries of a leader's row, each an integer
unfoldable pub seconds_of : Category → Items → Result (List ℕ) AeroFault
seconds_of leader no_items = Ok []
seconds_of leader (item d ds) = do
  number ← integer_of (key.Row leader) d
  seconds ← seconds_of leader ds
  Ok (second_of number ∷ seconds)

-- the row of a leader, with an entry for each follower and no more
abbrev pub row_of : Category → Option Data → Result (List ℕ) AeroFault
row_of leader None = Err (fault.MissingKey (key.Row leader))
row_of leader (Some (array ds)) =
    if items_length ds == category_count then seconds_of leader ds else Err (fault.WrongKind (key.Row leader))
row_of leader (Some d) = Err (fault.WrongKind (key.Row leader))

-- the rows of these leaders, one after the other
unfoldable pub rows_of : List Category → Members → Result (List (List ℕ)) AeroFault
rows_of [] ms = Ok []
rows_of (leader ∷ leaders) ms = do
  row ← row_of leader (get_member (letter_text leader) ms)
  rows ← rows_of leaders ms
  Ok (row ∷ rows)

abbrev pub table_or : Result (List (List ℕ)) TableFault → Result (List (List ℕ)) AeroFault
table_or (Ok rows) = Ok rows
table_or (Err e) = Err (fault.Table e)

-- the table of separations
unfoldable pub rows_in : Members → Result (List (List ℕ)) AeroFault
rows_in ms = do
  _ ← only part.Table ms
  rows ← rows_of letters ms
  table_or (table_of rows)

unfoldable pub table_in : Option Data → Result (List (List ℕ)) AeroFault
table_in None = Err (fault.MissingKey key.Table)
table_in (Some (table ms)) = rows_in ms
table_in (Some d) = Err (fault.WrongKind key.Table)
