-- What a read of a record does to a reader that gives every record as it stands.
use Rattle.std.proofs.Common.{rules, ◌≡◌, ℕ, ◌-◌, List, [], ◌∷◌, true, false, length, take, drop, Option, Some}
use Rattle.std.proofs.Common.{None, sym, ◌∙◌, arith}
use Rattle.csv.specs.Reading.{ReadRecord, is_flexible, took_first}
use Rattle.csv.specs.declared.reader.Reader.{Reader}
use Rattle.csv.specs.declared.parser.State.{State}
use Rattle.csv_records.specs.Rows.{Fields, within}
use Rattle.csv_records.specs.Left.{IsSet, left_in}
use Rattle.csv_records.specs.Extent.{first_of, IsEnd}
use Rattle.csv_records.proofs.Turns.{one_read, none_read, first_left}
use Rattle.csv_records.proofs.Parts.{rest_is}

-- a record was read: it was the first of the text and of those that were left, and the text behind it is left
pub read_one : {R : Type 0} (rem : R → Option (List ℕ)) (a b : Reader R) (bytes : List ℕ) (fields : Fields)
    → IsSet rem a bytes → ReadRecord rem a b true fields → took_first b ≡ true → is_flexible b ≡ is_flexible a
    → (s : State) × (ys : List ℕ) × (first_of bytes ≡ Some (fields, s, ys)) × IsSet rem b ys
    × (left_in rem false a ≡ fields ∷ left_in rem false b)
read_one rem a b bytes fields set read took flexible = grind (arith, one_read)

-- no record was read: none was left
pub read_none : {R : Type 0} (rem : R → Option (List ℕ)) (a b : Reader R) (bytes : List ℕ) (fields : Fields)
    → IsSet rem a bytes → ReadRecord rem a b false fields → left_in rem false a ≡ []
read_none rem a b bytes fields set read = grind (arith, none_read)

-- a record with few fields was read: it was the first of those that were left, and the text behind its end is left
pub few_read : {R : Type 0} (rem : R → Option (List ℕ)) (a b : Reader R) (bytes : List ℕ) (fields : Fields)
    (most end : ℕ) → IsSet rem a bytes → IsEnd most bytes (Some end)
    → ReadRecord rem a b true fields → took_first b ≡ true → is_flexible b ≡ is_flexible a
    → IsSet rem b (take (length bytes - end) (drop end bytes))
    × (within most (left_in rem false a) ≡ fields ∷ within most (left_in rem false b))
few_read rem a b bytes fields most end set ends read took flexible =
    let (s, ys, first, is, left) = read_one rem a b bytes fields set read took flexible in
    let (few, behind) = ends.1 (fields, s, ys) first in
    let rest : ys ≡ take (length bytes - end) (drop end bytes) = behind ∙ sym (rest_is end bytes) in
    search rules

-- the first record has more fields
pub wide_left : {R : Type 0} (rem : R → Option (List ℕ)) (a : Reader R) (bytes : List ℕ) (most : ℕ)
    → IsSet rem a bytes → IsEnd most bytes None → within most (left_in rem false a) ≡ [] ∷ []
wide_left rem a bytes most set h5 = grind (arith, first_left)
