-- The values are the same where the first record with more fields than the header stands without its fields, as the last.
use Rattle.std.proofs.Common.{◌≡◌, ◌<◌, true, false, List, [], ◌∷◌, length, Result, Ok, Err, refl, arith}
use Rattle.std.proofs.Common.{inl, inr}
use Rattle.std.specs.Prelude.{◌≢◌, nat_lt}
use Rattle.std.proofs.lemmas.Bool.{cases_Bool}
use Rattle.std.proofs.lemmas.Grind.{common_steps}
use Rattle.std.proofs.lemmas.Bool.Decides.{nat_tests}
use Rattle.cps_base.specs.Answers.{◌>>=◌}
use Rattle.csv_records.specs.Rows.{Fields, within}
use Rattle.csv_records.specs.Values.{Form, added, same_fields, value_in, values_in, values_by}
use Rattle.csv_records.specs.declared.cause.FileCause.TheVariants.{FieldCount}

-- records of other lengths differ
pub other_fields : (a b : Fields) → length b ≢ length a → same_fields a b ≡ false
other_fields [] [] other = absurd (other refl)
other_fields [] (y ∷ b) other = refl
other_fields (x ∷ a) [] other = refl
other_fields (x ∷ a) (y ∷ b) other = let rest = other_fields a b (λ e. other (omega (arith, e))) in grind (arith, cases_Bool)

module _ {X C E : Type 0} (form : Form X C E) (some : 0 < length form.header) where
  differs : (r : Fields) → nat_lt (length form.header) (length r) ≡ true → length r ≢ length form.header
  differs r wide same = grind (arith, nat_tests)

  wrong : (before : List X) (r : Fields) → length r ≢ length form.header
      → value_in form before r ≡ Err (form.cause FieldCount)
  wrong before r other = grind (arith, common_steps)

  in_within : (before : List X) (rs : List Fields)
      → values_in form before (within (length form.header) rs) ≡ values_in form before rs
  unfolding values_in
  in_within before [] = refl
  in_within before (r ∷ rs) = elim (cases_Bool (nat_lt (length form.header) (length r))) [
    | inl wide ↦ rw (wide, wrong before r (differs r wide), wrong before [] (λ e. omega (arith, e, some))) refl
    | inr few ↦ rw few (both (added form before (value_in form before r)) (λ xs. in_within xs rs))
  ]
    where
      both : (o : Result (List X) E)
          → ((xs : List X) → values_in form xs (within (length form.header) rs) ≡ values_in form xs rs)
          → (o >>= (λ xs. values_in form xs (within (length form.header) rs))) ≡ (o >>= (λ xs. values_in form xs rs))
      both (Ok xs) same = same xs
      both (Err e) same = refl

  pub values_within : (rs : List Fields) → values_by form (within (length form.header) rs) ≡ values_by form rs
  unfolding values_by
  values_within [] = refl
  values_within (r ∷ rs) = elim (cases_Bool (nat_lt (length form.header) (length r))) [
    | inl wide ↦ rw (
      wide,
      other_fields form.header r (differs r wide),
      other_fields form.header [] (λ e. omega
          (arith, e, some)),
    ) refl
    | inr few ↦ rw (few, in_within [] rs) refl
  ]
