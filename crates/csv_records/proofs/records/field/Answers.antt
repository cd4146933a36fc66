-- A field by its place, and an empty one where there is none.
use Rattle.std.proofs.Common.{◌≡◌, List, ℕ, suc, [], ◌∷◌, get_or, ◌∙◌, ap}
use Rattle.std.specs.Prelude.{unwrap_or}
use Rattle.csv.specs.Records.{field_at, fields_of}
use Rattle.csv_records.proofs.records.field.Goals as goal

found : (fs : List (List ℕ)) (i : ℕ) → unwrap_or (field_at fs i) [] ≡ get_or fs i []
unfolding field_at
found (f ∷ fs) (suc i) = found fs i
found fs i = cc

pub returns-in-Some : goal.returns-in-Some
returns-in-Some c = ap (λ o. unwrap_or o []) (rw c.in-Some.is at c.get.ensures.value)
    ∙ found (fields_of c.args.row.now) c.args.i

pub returns-in-None : goal.returns-in-None
returns-in-None c = ap (λ o. unwrap_or o []) (rw c.in-None.is at c.get.ensures.value)
    ∙ found (fields_of c.args.row.now) c.args.i
