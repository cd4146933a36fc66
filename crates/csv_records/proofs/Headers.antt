-- A record is compared with names field by field.
use Rattle.std.proofs.Common.{◌≡◌, ◌+◌, ◌-◌, ◌<◌, ℕ, Bool, true, false, List, [], ◌∷◌, length, map, take, drop, get_or}
use Rattle.std.proofs.Common.{arith, sym, ap, ◌∙◌, Bor}
use Rattle.std.specs.Prelude.{bytes_eq, ◌≢◌, ◌&&◌}
use Rattle.std.proofs.lemmas.List.{take_rest, at_drop_more, length-map}
use Rattle.csv_records.specs.Rows.{Fields, field}
use Rattle.csv_records.specs.Values.{same_fields}
use Rattle.csv_records.specs.ValuesLaw.{other_fields}

abbrev pub Names : Type 0
Names = List (Bor (List ℕ))

abbrev pub texts : Names → Fields
texts names = map (λ t. t.now) names

pub other_names : (names : Names) (r : Fields) → length r ≢ length names → false ≡ same_fields (texts names) r
other_names names r other = sym (other_fields (texts names) r (λ e. other (e ∙ length-map names (λ t. t.now))))

next : (x : List ℕ) (xs r : Fields) (i : ℕ) → i < length r
    → same_fields (x ∷ xs) (drop i r) ≡ (bytes_eq x (field r i) && same_fields xs (drop (i + 1) r))
next x xs r i below = at_drop_more (same_fields (x ∷ xs)) r i [] below

pub ends_here : (names : Names) (d : Bor (List ℕ)) (r : Fields) (i : ℕ) (whole : Bool) → 0 < length names
    → i < length r → bytes_eq (get_or names 0 d).now (field r i) ≡ false
    → same_fields (texts names) (drop i r) ≡ whole → false ≡ whole
ends_here [] d r i whole some below differ is = absurd (omega (arith, some))
ends_here (x ∷ names) d r i whole some below differ is =
    let e : same_fields (texts (x ∷ names)) (drop i r) ≡ false = rw differ at (next x.now (texts names) r i below) in
    sym e ∙ is

pub goes_on : (names : Names) (d : Bor (List ℕ)) (r : Fields) (i : ℕ) → 0 < length names → i < length r
    → bytes_eq (get_or names 0 d).now (field r i) ≡ true
    → same_fields (texts (take (length names - 1) (drop 1 names))) (drop (i + 1) r) ≡ same_fields (texts names) (drop i r)
goes_on [] d r i some below alike = absurd (omega (arith, some))
goes_on (x ∷ names) d r i some below alike =
    let e : same_fields (texts (x ∷ names)) (drop i r) ≡ same_fields (texts names) (drop (i + 1) r) =
    rw alike at (next x.now (texts names) r i below) in
    ap (λ us. same_fields (texts us) (drop (i + 1) r)) (take_rest (x ∷ names) 1) ∙ sym e
