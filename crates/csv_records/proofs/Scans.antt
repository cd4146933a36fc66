-- Where the first record of a text ends, and how many fields it has, from one byte to the next.
use Rattle.std.proofs.Common.{rules, ◌≡◌, ℕ, ◌+◌, ◌<◌, ◌≤◌, Bool, List, [], ◌∷◌, ◌++◌, true, false, length, drop}
use Rattle.std.proofs.Common.{get_or, Option, Some, None, refl, sym, ◌∙◌, arith, length-append}
use Rattle.std.proofs.lemmas.List.{drop_more}
use Rattle.std.proofs.Math.Seq.{drop-length}
use Rattle.csv.specs.Machine.{step, Read, next_record, ends_at_end}
use Rattle.csv.specs.Reading.{default_config}
use Rattle.csv.specs.declared.parser.State.{State}
use Rattle.csv.specs.declared.parser.State.TheVariants as st
use Rattle.csv.specs.declared.parser.Action.{Action}
use Rattle.csv.specs.declared.parser.Action.TheVariants as act
use Rattle.csv_records.specs.Rows.{Fields}
use Rattle.csv_records.specs.declared.width.Place.{Place}
use Rattle.csv_records.specs.declared.width.Place.TheVariants as place
use Rattle.csv_records.specs.declared.width.Turn.{Turn}
use Rattle.csv_records.specs.declared.width.Turn.TheVariants as turn
use Rattle.csv_records.specs.Extent.{state_of, place_of, turn_of, first_of, IsEnd}

-- a place inside a record
abbrev pub is_inside : Place → Bool
is_inside place.Between = false
is_inside p = true

-- a step that goes on leaves a state that the place shows, and leaves no record; one that ends a field is at the next
Shows : Place → State → Action → Type 0
Shows p s act.Skip = (state_of (place_of s) ≡ s) × (is_inside p ≡ true → is_inside (place_of s) ≡ true)
Shows p s act.Copy = (state_of (place_of s) ≡ s) × (is_inside p ≡ true → is_inside (place_of s) ≡ true)
Shows p s act.EndField = s ≡ st.StartField
Shows p s act.EndRecord = ends_at_end s ≡ false

ShowsStep : Place → State × Action → Type 0
ShowsStep p q = Shows p q.0 q.1

shows : (p : Place) (c : ℕ) → ShowsStep p (step default_config (state_of p) c)
unfolding ShowsStep Shows
shows p c = grind arith

-- the first record is what is read of the text left, from a place inside or before it, behind so many fields
abbrev pub IsAt : Option Read → Place → ℕ → List ℕ → Type 0
IsAt o p ended left = (fields : Fields) × (f : List ℕ) × (o ≡ next_record default_config (state_of p) fields f left)
    × (length fields ≡ ended)

more : (fields : Fields) (f : List ℕ) → length (fields ++ f ∷ []) ≡ length fields + 1
more fields f = length-append fields (f ∷ [])

-- what a step makes of what is left
After : Option Read → Place → ℕ → List ℕ → Turn → Type 0
After o p ended rest (turn.GoesOn next) = IsAt o next ended rest × (is_inside p ≡ true → is_inside next ≡ true)
After o p ended rest turn.EndsField = IsAt o place.FieldStart (ended + 1) rest
After o p ended rest turn.EndsRecord = (q : Read) × (o ≡ Some q) × (length q.0 ≡ ended + 1) × (q.2 ≡ rest)

after : (o : Option Read) (p : Place) (ended c : ℕ) (rest : List ℕ) → IsAt o p ended (c ∷ rest)
    → After o p ended rest (turn_of (step default_config (state_of p) c))
unfolding next_record ShowsStep Shows After
after o p ended c rest h5 = grind (arith, shows, more)

-- inside a record there is one, with a field more than have ended
gives : (o : Option Read) (p : Place) (ended : ℕ) (left : List ℕ) → is_inside p ≡ true → IsAt o p ended left
    → (q : Read) × (o ≡ Some q) × (ended < length q.0)
unfolding next_record After
gives o p ended [] inside (fields, f, is, len) = search (rules, more)
gives o p ended (c ∷ rest) inside at =
    by (turn_of (step default_config (state_of p) c)) (after o p ended c rest at)
    (λ next h. gives o next ended rest (h.1 inside) h.0) (λ h. gives o place.FieldStart (ended + 1) rest refl h)
  where
    by : (t : Turn) → After o p ended rest t
        → ((next : Place) → IsAt o next ended rest × (is_inside p ≡ true → is_inside next ≡ true)
        → (q : Read) × (o ≡ Some q) × (ended < length q.0))
        → (IsAt o place.FieldStart (ended + 1) rest → (q : Read) × (o ≡ Some q) × (ended + 1 < length q.0))
        → (q : Read) × (o ≡ Some q) × (ended < length q.0)
    by (turn.GoesOn next) h on field = on next h
    by turn.EndsField h on field = let (q, is, above) = field h in (q, is, omega (arith, above))
    by turn.EndsRecord h on field = (h.0, h.1, omega (arith, h.2))

-- the same, of a text from one of its bytes on
abbrev pub IsScanned : List ℕ → Place → ℕ → ℕ → Type 0
IsScanned text p ended i = IsAt (first_of text) p ended (drop i text)

-- what the byte at a place does, from a place in the record
abbrev pub IsTurn : List ℕ → Place → ℕ → Turn → Type 0
IsTurn text p i t = t ≡ turn_of (step default_config (state_of p) (get_or text i 0))

turned : (text : List ℕ) (p : Place) (ended i : ℕ) (t : Turn) → i < length text → IsScanned text p ended i
    → IsTurn text p i t → After (first_of text) p ended (drop (i + 1) text) t
turned text p ended i t below at same = grind (arith, drop_more, after)

pub scan_goes_on : (text : List ℕ) (p next : Place) (ended i : ℕ) → i < length text → IsScanned text p ended i
    → IsTurn text p i (turn.GoesOn next) → IsScanned text next ended (i + 1)
unfolding After
scan_goes_on text p next ended i below at same = (turned text p ended i (turn.GoesOn next) below at same).0

pub scan_field : (text : List ℕ) (p : Place) (ended i : ℕ) → i < length text → IsScanned text p ended i
    → IsTurn text p i turn.EndsField → IsScanned text place.FieldStart (ended + 1) (i + 1)
unfolding After
scan_field text p ended i below at same = turned text p ended i turn.EndsField below at same

-- a field more than may be has begun
pub scan_wide : (text : List ℕ) (most ended i : ℕ) → most ≤ ended → IsScanned text place.FieldStart ended i
    → IsEnd most text None
scan_wide text most ended i over at =
    grind (arith, gives (first_of text) place.FieldStart ended (drop i text) refl at)

-- the record ends at this byte
pub scan_ends : (text : List ℕ) (p : Place) (most ended i : ℕ) → i < length text → ended < most
    → IsScanned text p ended i → IsTurn text p i turn.EndsRecord → IsEnd most text (Some (i + 1))
unfolding After
scan_ends text p most ended i below few at same =
    let (q, has, len, rest) = turned text p ended i turn.EndsRecord below at same in
    grind arith

-- the end of the text
at_end : (p : Place) (fields : Fields) (f : List ℕ) (q : Read)
    → next_record default_config (state_of p) fields f [] ≡ Some q → (length q.0 ≡ length fields + 1) × (q.2 ≡ [])
unfolding next_record
at_end p fields f q e = search (rules, more)

pub scan_over : (text : List ℕ) (p : Place) (most ended i : ℕ) → ended < most → i ≡ length text
    → IsScanned text p ended i → IsEnd most text (Some (length text))
scan_over text p most ended i few over (fields, f, is, len) =
    (omega arith, λ q has. known q (at_end p fields f q (by has)))
  where
    none : drop i text ≡ []
    none = rw over (drop-length text)

    by : {q : Read} → first_of text ≡ Some q → next_record default_config (state_of p) fields f [] ≡ Some q
    by has = rw none at (sym is ∙ has)

    known : (q : Read) → (length q.0 ≡ length fields + 1) × (q.2 ≡ []) → (length q.0 ≤ most)
        × (q.2 ≡ drop (length text) text)
    known q e = (omega (arith, e.0, len, few), e.1 ∙ sym (drop-length text))
