-- A read gives the first of the records that were left.
use Rattle.std.proofs.Common.{rules, arith, ◌≡◌, ◌-◌, ◌∷◌, Option, ℕ, Bor, false, List, Some, length, take, drop, sym}
use Rattle.std.proofs.Common.{◌∙◌}
use Rattle.csv.specs.Records.{fields_of}
use Rattle.csv_records.specs.Rows.{within}
use Rattle.csv_records.specs.Left.{IsSet, left_in}
use Rattle.csv_records.proofs.OneRead.{few_read, wide_left, read_none}
use Rattle.csv_records.proofs.records.Records.read_next.Goals as goal

abbrev slice : Bor (List ℕ) → Option (List ℕ)
slice s = Some s.now

-- one record was read
one : (c : goal.In-Ok-true)
    → IsSet slice c.read_byte_record.new.self (take (length c.self.inside.rest.now - c.in-Some.end)
    (drop c.in-Some.end c.self.inside.rest.now))
    × (within c.self.inside.most (left_in slice false c.self.inside.reader) ≡ fields_of c.read_byte_record.new.row
    ∷ within c.self.inside.most (left_in slice false c.read_byte_record.new.self))
one c =
    let set = c.self.invariant.1 c.if-self.false in
    few_read slice c.self.inside.reader c.read_byte_record.new.self c.self.inside.rest.now
    (fields_of c.read_byte_record.new.row) c.self.inside.most c.in-Some.end set c.in-Some.ensures
    (rw c.in-Ok-true.field-0-test at (c.in-Ok-true.ensures.reads set.trim set.ready))
    (c.in-Ok-true.ensures.ready set.trim) c.in-Ok-true.ensures.flexible

pub returns-in_default-clause-read : goal.returns-in_default-clause-read
returns-in_default-clause-read c =
    let set = c.self.invariant.1 c.if-self.false in
    rw c.clear.ensures.fields (sym (rw c.if-self.false at c.self.view_is) ∙ wide_left slice c.self.inside.reader
    c.self.inside.rest.now c.self.inside.most set c.in_default.ensures)

pub invariant_of-self-in-Ok-true : goal.invariant_of-self-in-Ok-true
invariant_of-self-in-Ok-true c = (c.self.invariant.0, λ _. (one c).0)

pub returns-in-Ok-true-clause-read : goal.returns-in-Ok-true-clause-read
returns-in-Ok-true-clause-read c = grind (arith, one)

pub returns-in-Ok-false-clause-read : goal.returns-in-Ok-false-clause-read
returns-in-Ok-false-clause-read c =
    let set = c.self.invariant.1 c.if-self.false in
    let none = read_none slice c.self.inside.reader c.read_byte_record.new.self c.self.inside.rest.now
    (fields_of c.read_byte_record.new.row) set (rw c.in-Ok-false.field-0-test at
    (c.in-Ok-false.ensures.reads set.trim set.ready)) in
    search rules
