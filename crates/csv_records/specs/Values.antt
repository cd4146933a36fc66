-- What the records of a file are read as: the first is the header, and each behind it is one value.
use Rattle.std.specs.Prelude.{ℕ, ◌+◌, List, [], ◌∷◌, ◌++◌, ◌==◌, ◌&&◌, length, Bool, true, false, not, nat_le, bytes_eq}
use Rattle.std.specs.Prelude.{Result, Ok, Err, if◌then◌else◌}
use Rattle.cps_base.specs.Answers.{◌>>=◌}
use Rattle.csv_records.specs.Rows.{Fields, records_of}
use Rattle.csv_records.specs.declared.cause.FileCause.{FileCause}
use Rattle.csv_records.specs.declared.cause.FileCause.TheVariants.{Header, FieldCount, TooMany, Memory}

-- a kind of file: its header, the value that a record is behind the values before it, how many values there may be at
-- most, its own names for the faults of all such files, and the fault of a record
pub record Form (X C E : Type 0) : Type 0 where
  pub header : Fields
  pub value : List X → Fields → Result X C
  pub most : ℕ
  pub cause : FileCause → C
  pub fault : ℕ → C → E

-- two records have the same fields
abbrev pub same_fields : Fields → Fields → Bool
same_fields [] [] = true
same_fields [] (y ∷ ys) = false
same_fields (x ∷ xs) [] = false
same_fields (x ∷ xs) (y ∷ ys) = bytes_eq x y && same_fields xs ys

module _ {X C E : Type 0} (form : Form X C E) where
  -- memory ran out, in no record
  abbrev pub memory_fault : E
  memory_fault = form.fault 0 (form.cause Memory)

  -- the value that a record is, behind those before it: it has as many fields as the header, and there is room for it
  abbrev pub value_in : List X → Fields → Result X C
  value_in before r =
      if not (length r == length form.header) then Err (form.cause FieldCount)
      else (form.value before r >>= (λ x. if nat_le form.most (length before) then Err (form.cause TooMany) else Ok x))

  -- one value more, or the fault of its record; records are numbered from 1, and the header is the first
  abbrev pub added : List X → Result X C → Result (List X) E
  added before (Ok x) = Ok (before ++ x ∷ [])
  added before (Err c) = Err (form.fault (length before + 2) c)

  -- the values of the records behind the header, behind those before them, up to the first record with a fault
  unfoldable pub values_in : List X → List Fields → Result (List X) E
  values_in before [] = Ok before
  values_in before (r ∷ rs) = added before (value_in before r) >>= (λ xs. values_in xs rs)

  -- the values of all records, of which the first is the header
  unfoldable pub values_by : List Fields → Result (List X) E
  values_by [] = Err (form.fault 1 (form.cause Header))
  values_by (r ∷ rs) = if same_fields form.header r then values_in [] rs else Err (form.fault 1 (form.cause Header))

  -- the values of a file
  abbrev pub values_of : List ℕ → Result (List X) E
  values_of bytes = values_by (records_of bytes)
