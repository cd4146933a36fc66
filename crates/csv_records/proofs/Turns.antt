-- Each record takes a byte or more, so that enough turns give all records of a text.
use Rattle.std.proofs.Common.{◌≡◌, ℕ, zero, suc, ◌+◌, ◌<◌, ◌≤◌, List, [], ◌∷◌, true, false, length, Option, Some}
use Rattle.std.proofs.Common.{None, refl, sym, ap, ◌∙◌, add-one, arith, inl, inr}
use Rattle.std.proofs.lemmas.Bool.{cases_Bool}
use Rattle.std.proofs.lemmas.Option.{same_Some}
use Rattle.csv.specs.Machine.{step, Read, next_record, is_end, ends_at_end, fields_after}
use Rattle.csv.specs.Reading.{default_config, records_from, records_next, ReadsNext, NextIs}
use Rattle.csv.specs.declared.parser.State.{State}
use Rattle.csv.specs.declared.parser.State.TheVariants as st
use Rattle.csv.specs.declared.parser.Action.{Action}
use Rattle.csv_records.specs.Rows.{Fields}
use Rattle.csv_records.specs.Left.{records_left}
use Rattle.csv_records.specs.Extent.{first_of}

-- between two records no record stands open
abbrev pub Between : State → Type 0
Between s = ends_at_end s ≡ false

Ends : State × Action → Type 0
Ends p = is_end p.1 ≡ true → Between p.0

end_between : (s : State) (c : ℕ) → Ends (step default_config s c)
unfolding Ends
end_between s c = grind arith

-- a record leaves the text between two records, and takes a byte of a text that has one
takes : (s : State) (fields : Fields) (f xs : List ℕ) (q : Read) → next_record default_config s fields f xs ≡ Some q
    → Between q.1 × (length q.2 ≤ length xs) × (0 < length xs → length q.2 < length xs)
unfolding next_record Ends
takes s fields f [] q e = grind arith
takes s fields f (c ∷ xs) q e =
    elim (cases_Bool (is_end (step default_config s c).1)) [
      | inl end ↦
          let same = same_Some (fields_after (step default_config s c).1 fields f, (step default_config s c).0, xs) q
          (rw end at e) in
          rw (← same) (end_between s c end, omega arith, λ h. omega arith)
      | inr on ↦
          let more = takes (step default_config s c).0 _ _ xs q (rw on at e) in
          (more.0, omega (arith, more.1), λ h. omega (arith, more.1))
    ]

-- between two records only a text with a byte has a record
shorter : (s : State) (xs : List ℕ) (q : Read) → Between s → next_record default_config s [] [] xs ≡ Some q
    → length q.2 < length xs
unfolding next_record
shorter s [] q between e = cc
shorter s (c ∷ xs) q between e = (takes s [] [] (c ∷ xs) q e).2 (omega arith)

-- any two counts of turns that are above the length give the same records
enough : (n m : ℕ) (s : State) (xs : List ℕ) → Between s → length xs < n → length xs < m
    → records_from default_config n s xs ≡ records_from default_config m s xs
unfolding records_from
enough zero m s xs between a b = absurd (omega arith)
enough (suc n) zero s xs between a b = absurd (omega arith)
enough (suc n) (suc m) s xs between a b = by (next_record default_config s [] [] xs) refl (λ q. enough n m q.1 q.2)
  where
    by : (o : Option Read) → next_record default_config s [] [] xs ≡ o
        → ((q : Read) → Between q.1 → length q.2 < n → length q.2 < m
        → records_from default_config n q.1 q.2 ≡ records_from default_config m q.1 q.2)
        → records_next (records_from default_config n) o ≡ records_next (records_from default_config m) o
    by None e same = refl
    by (Some q) e same =
        let less = shorter s xs q between e in
        ap (λ (t : List Fields). q.0 ∷ t) (same q (takes s [] [] xs q e).0 (omega (arith, less)) (omega (arith, less)))

-- one turn, and then the others
turn : (n : ℕ) (s : State) (xs : List ℕ) → records_from default_config (n + 1) s xs ≡ records_next
    (records_from default_config n) (next_record default_config s [] [] xs)
unfolding records_from
turn n s xs = rw add-one refl

-- between two records it is no matter how the last one ended
start_same : (s : State) (xs : List ℕ) → Between s → next_record default_config s [] [] xs ≡ first_of xs
unfolding next_record
start_same st.AfterCr [] b = refl
start_same s xs b = grind arith

-- the first record of a text is the first of those that are left
pub first_left : (s : State) (xs : List ℕ) (q : Read) → Between s → first_of xs ≡ Some q
    → (more : List Fields) × (records_left s (Some xs) ≡ q.0 ∷ more)
first_left s xs q between first = grind (arith, turn (length xs) s xs, start_same s xs between)

-- a read that gave a record gave the first of the text and of those that were left, and leaves the others
pub one_read : (s : State) (xs : List ℕ) (after : Option (List ℕ)) (fields : Fields) (s2 : State)
    → Between s → ReadsNext default_config s (Some xs) after true fields s2
    → (records_left s (Some xs) ≡ fields ∷ records_left s2 after) × Between s2 × (ys : List ℕ)
    × (after ≡ Some ys) × (first_of xs ≡ Some (fields, s2, ys))
one_read s xs None fields s2 between read = absurd read
one_read s xs (Some ys) fields s2 between read = by (next_record default_config s [] [] xs) refl read
  where
    by : (o : Option Read) → next_record default_config s [] [] xs ≡ o → NextIs o true fields s2 ys
        → (records_left s (Some xs) ≡ fields ∷ records_left s2 (Some ys)) × Between s2 × (zs : List ℕ)
        × (Some ys ≡ Some zs) × (first_of xs ≡ Some (fields, s2, zs))
    by None e is = absurd (cc is)
    by (Some q) e is =
        let less = shorter s xs q between e in
        let ends = (takes s [] [] xs q e).0 in
        let same = enough (length xs) (length q.2 + 1) q.1 q.2 ends less (omega arith) in
        let first = sym (start_same s xs between) ∙ e in
        rw (is.1, is.2, is.3) (
          turn (length xs) s xs
              ∙ rw e (ap (λ (t : List Fields). q.0 ∷ t) same),
          ends,
          q.2,
          refl,
          first,
        )

-- a read that gave none left none
pub none_read : (s : State) (xs : List ℕ) (after : Option (List ℕ)) (fields : Fields) (s2 : State)
    → ReadsNext default_config s (Some xs) after false fields s2 → records_left s (Some xs) ≡ []
none_read s xs after fields s2 read = grind (arith, turn)
