-- What a table of separations is, and the first fault of rows that are none.
use Rattle.std.specs.Prelude.{ℕ, List, [], ◌∷◌, Bool, ◌||◌, ◌+◌, ◌≤◌, nat_lt, get_or, slice_index, map, find}
use Rattle.std.specs.Prelude.{Option, Some, None, option_map, Result, Ok, Err}
use Rattle.std.specs.List.{flat_map}
use Rattle.std.specs.Option.{option_or}
use Rattle.wake_table.specs.declared.category.Category.{Category}
use Rattle.wake_table.specs.declared.table.TableFault.{TableFault}
use Rattle.wake_table.specs.declared.table.TableFault.TheVariants.{OutOfRange, Triangle}
use Rattle.wake_table.specs.Letters.{letters, place}

-- the seconds from a leader to a follower: the entry in the leader's row, at the follower's place
unfoldable pub separation : List (List ℕ) → Category → Category → ℕ
separation rows leader follower = slice_index (get_or rows (place leader) []) (place follower)

-- the pairs of this leader, and all pairs, in letter order
abbrev pub pairs_from : List Category → Category → List (Category × Category)
pairs_from letters leader = map (λ follower. (leader, follower)) letters

abbrev pub pairs : List Category → List (Category × Category)
pairs letters = flat_map (pairs_from letters) letters

-- the triples that begin with this pair, and all triples, in letter order
abbrev pub triples_from : List Category → Category × Category → List (Category × Category × Category)
triples_from letters p = map (λ last. (p.0, p.1, last)) letters

abbrev pub triples : List Category → List (Category × Category × Category)
triples letters = flat_map (triples_from letters) (pairs letters)

-- the greatest separation, in seconds
abbrev pub greatest_separation : ℕ
greatest_separation = 600

-- the separation of the pair is outside 1 to 600 seconds
abbrev pub is_out_of_range : List (List ℕ) → Category × Category → Bool
is_out_of_range rows p = nat_lt (separation rows p.0 p.1) 1 || nat_lt greatest_separation (separation rows p.0 p.1)

-- from the first to the last is more than from the first to the middle one and on to the last
abbrev pub breaks_triangle : List (List ℕ) → Category × Category × Category → Bool
breaks_triangle rows t = nat_lt (separation rows t.0 t.1 + separation rows t.1 t.2) (separation rows t.0 t.2)

abbrev pub range_fault : Category × Category → TableFault
range_fault p = OutOfRange p.0 p.1

abbrev pub triangle_fault : Category × Category × Category → TableFault
triangle_fault t = Triangle t.0 t.1 t.2

-- the first pair out of range, else the first triple that breaks the triangle inequality, in letter order
unfoldable pub first_fault : List (List ℕ) → Option TableFault
first_fault rows =
    option_or
    (option_map range_fault (find (is_out_of_range rows) (pairs letters)))
    (option_map triangle_fault (find (breaks_triangle rows) (triples letters)))

abbrev pub ok_without : Option TableFault → List (List ℕ) → Result (List (List ℕ)) TableFault
ok_without None rows = Ok rows
ok_without (Some fault) rows = Err fault

-- the table that these rows are, or its first fault
abbrev pub table_of : List (List ℕ) → Result (List (List ℕ)) TableFault
table_of rows = ok_without (first_fault rows) rows

-- what each table is: entries of 1 to 600 seconds, and never more than by way of a third flight
pub record IsWakeTable (rows : List (List ℕ)) : Type 0 where
  pub entries : (a b : Category) → (1 ≤ separation rows a b) × (separation rows a b ≤ greatest_separation)
  pub triangle : (a b c : Category) → separation rows a c ≤ separation rows a b + separation rows b c

-- the sample table, in the RECAT-EU form: for each leader in letter order, the seconds of the followers in letter order
abbrev pub sample_table : List (List ℕ)
sample_table =
    (90 ∷ 110 ∷ 120 ∷ 130 ∷ 140 ∷ 180 ∷ [])
    ∷ (60 ∷ 90 ∷ 100 ∷ 110 ∷ 120 ∷ 160 ∷ [])
    ∷ (60 ∷ 60 ∷ 60 ∷ 60 ∷ 100 ∷ 140 ∷ [])
    ∷ (60 ∷ 60 ∷ 60 ∷ 60 ∷ 60 ∷ 120 ∷ [])
    ∷ (60 ∷ 60 ∷ 60 ∷ 60 ∷ 60 ∷ 100 ∷ [])
    ∷ (60 ∷ 60 ∷ 60 ∷ 60 ∷ 60 ∷ 60 ∷ [])
    ∷ []
