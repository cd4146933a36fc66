-- The records that a reader has left.
use Rattle.std.specs.Prelude.{◌≡◌, ℕ, ◌+◌, List, [], Bool, true, false, length, Option, Some, None}
use Rattle.csv.specs.Machine.{ends_at_end}
use Rattle.csv.specs.Reading.{Ready, default_config, is_flexible, reader_config, reader_state, reader_trim}
use Rattle.csv.specs.Reading.{records_from, source_of}
use Rattle.csv.specs.declared.parser.State.{State}
use Rattle.csv.specs.declared.reader.Reader.{Reader}
use Rattle.csv.specs.declared.reader.Trim.TheVariants as trim
use Rattle.csv_records.specs.Rows.{Fields}

-- the records of these bytes, from a state of the reader on; none of bytes that are not known
abbrev pub records_left : State → Option (List ℕ) → List Fields
records_left s None = []
records_left s (Some bytes) = records_from default_config (length bytes + 1) s bytes

abbrev pub left_in : {R : Type 0} → (R → Option (List ℕ)) → Bool → Reader R → List Fields
left_in rem true reader = []
left_in rem false reader = records_left (reader_state reader) (source_of rem reader)

-- a reader that gives every record as it stands, between two records and before these bytes
pub record IsSet {R : Type 0} (rem : R → Option (List ℕ)) (reader : Reader R) (bytes : List ℕ) : Type 0 where
  pub trim : reader_trim reader ≡ trim.None
  pub ready : Ready reader
  pub config : reader_config reader ≡ default_config
  pub flexible : is_flexible reader ≡ true
  pub between : ends_at_end (reader_state reader) ≡ false
  pub known : source_of rem reader ≡ Some bytes
