-- One field more.
use Rattle.std.proofs.Common.{◌≡◌, ◌<◌, ◌∙◌, ℕ, List, [], true, false, get_or, length, arith, rules, Bor}
use Rattle.std.specs.Prelude.{bytes_eq}
use Rattle.csv.specs.Records.{fields_of}
use Rattle.csv_records.specs.Rows.{field}
use Rattle.csv_records.proofs.Headers.{other_names, ends_here, goes_on}
use Rattle.csv_records.proofs.values.has_fields.Goals as goal

abbrev none : Bor (List ℕ)
none = record { ref_ptr = (0, 0); now = [] }

pub returns-then-len-fields : goal.returns-then-len-fields
returns-then-len-fields c = grind (arith, other_names)

pub returns-then-ne : goal.returns-then-ne
returns-then-ne c =
    let some : 0 < length c.loop-rest.rest.now = omega (arith, c.in-len1-up.len_at_least) in
    let below : c.loop-rest.i < length (fields_of c.args.row.now) = omega (arith, c.loop-rest.invariant.1, some) in
    let differ : bytes_eq (get_or c.loop-rest.rest.now 0 none).now (field (fields_of c.args.row.now) c.loop-rest.i)
    ≡ false = grind arith in
    ends_here c.loop-rest.rest.now none (fields_of c.args.row.now) c.loop-rest.i _ some below differ
    c.loop-rest.invariant.0

pub loop-rest-preserved : goal.loop-rest-preserved
loop-rest-preserved c =
    let some : 0 < length c.loop-rest.rest.now = omega (arith, c.in-len1-up.len_at_least) in
    let below : c.loop-rest.i < length (fields_of c.args.row.now) = omega (arith, c.loop-rest.invariant.1, some) in
    let alike : bytes_eq (get_or c.loop-rest.rest.now 0 none).now (field (fields_of c.args.row.now) c.loop-rest.i)
    ≡ true = grind arith in (
      goes_on c.loop-rest.rest.now none (fields_of c.args.row.now) c.loop-rest.i some below alike
          ∙ c.loop-rest.invariant.0,
      search rules,
    )
