-- Arrays of values, and what was read of them in part.
use Rattle.std.proofs.Common.{◌≡◌, ℕ, ◌-◌, ◌<◌, suc, List, [], ◌∷◌, ◌++◌, length, get_or, take, drop, Result, Ok, Err}
use Rattle.std.proofs.Common.{refl, ap, arith, true, sym, ◌∙◌}
use Rattle.std.proofs.lemmas.Bool.{and_parts, lt-ltb}
use Rattle.std.proofs.lemmas.Option.{same_Some}
use Rattle.std.proofs.lemmas.List.{take_rest}
use Rattle.toml.specs.declared.value.Value.{Value}
use Rattle.std.specs.Prelude.{◌&&◌, Bool, is_some, Option, Some, None}
use Rattle.std.specs.List.{list_all}
use Rattle.toml.specs.Data.{Data, array, Members, as_array, as_table}
use Rattle.toml.specs.View.{view, items_view}
use Rattle.aerodrome_file.specs.Tables.{are_tables, items_length, tables_in, tables_of, with_table}
use Rattle.aerodrome_file.specs.declared.fault.AeroFault.{AeroFault}
use Rattle.aerodrome_file.specs.declared.fault.Key.{Key}

abbrev pub is_table : Value → Bool
is_table v = is_some (as_table (view v))

-- `are_tables` asks it of each value
pub tables_view : (vs : List Value) → are_tables (items_view vs) ≡ list_all is_table vs
tables_view [] = refl
tables_view (v ∷ vs) = ap (λ b. is_table v && b) (tables_view vs)

pub items_length_view : (vs : List Value) → items_length (items_view vs) ≡ length vs
items_length_view [] = refl
items_length_view (v ∷ vs) = ap suc (items_length_view vs)

-- where all values are tables there are as many
pub all_tables : (vs : List Value) → are_tables (items_view vs) ≡ true → length (tables_of (items_view vs)) ≡ length vs
all_tables [] are = refl
all_tables (v ∷ vs) are = go (as_table (view v)) (and_parts (is_table v) (are_tables (items_view vs)) are).0
    ∙ ap suc (all_tables vs (and_parts (is_table v) (are_tables (items_view vs)) are).1)
  where
    go : (m : Option Members) → is_some m ≡ true
        → length (with_table m (tables_of (items_view vs))) ≡ suc (length (tables_of (items_view vs)))
    go (Some ms) some = refl
    go None some = absurd (cc some)

-- too many tables
pub over_most : (k : Key) (most : ℕ) (too_many : AeroFault) (d : Data) (vs : List Value)
    → as_array d ≡ Some (items_view vs) → are_tables (items_view vs) ≡ true → most < length vs
    → Err too_many ≡ tables_in k most too_many (Some d)
over_most k most too_many (array ds) vs is are over =
    let same : ds ≡ items_view vs = same_Some _ _ is in
    rw (same, are, items_length_view vs, lt-ltb most (length vs) over) refl
over_most k most too_many d vs is are over = absurd (cc is)

-- the tables of a slice are that of its first value, if it is one, and those of the others
pub first_table : (vs : List Value) (v : Value) → v ≡ get_or vs 0 v → 0 < length vs → tables_of (items_view vs)
    ≡ with_table (as_table (view v)) (tables_of (items_view (take (length vs - 1) (drop 1 vs))))
first_table [] v first some = absurd (omega (arith, some))
first_table (w ∷ vs) v first some =
    let rest : take (length (w ∷ vs) - 1) (drop 1 (w ∷ vs)) ≡ vs = take_rest (w ∷ vs) 1 in
    ap (λ u. with_table (as_table (view u)) (tables_of (items_view vs))) (sym first)
    ∙ ap (λ us. with_table (as_table (view v)) (tables_of (items_view us))) (sym rest)

-- what was read before, and then the rest
abbrev pub with_front : {X : Type 0} → List X → Result (List X) AeroFault → Result (List X) AeroFault
with_front front (Ok rest) = Ok (front ++ rest)
with_front front (Err e) = Err e
