-- A text is cut at its first mark.
use Rattle.std.proofs.Common.{◌≡◌, ℕ, ◌+◌, ◌-◌, ◌<◌, ◌≤◌, List, [], ◌∷◌, false, length, take, drop, Some, None, arith}
use Rattle.std.proofs.Common.{inl, inr}
use Rattle.std.specs.Prelude.{◌==◌, position, nat_lt}
use Rattle.std.specs.List.{position_or_len}
use Rattle.std.proofs.lemmas.Bool.{cases_Bool}
use Rattle.std.proofs.lemmas.Grind.{common_steps}
use Rattle.std.proofs.lemmas.Option.{same_Some}
use Rattle.std.proofs.lemmas.List.Sums.{fails_before_first, count_by-le-length}
use Rattle.std.proofs.lemmas.List.Elements.{All-from_get_or}
use Rattle.std.proofs.lemmas.List.Splits.{slice_split_first, slice_split_none, length-slice_split}
use Rattle.std.proofs.lemmas.List.{take_rest}
use Rattle.texts.specs.Parts.{parts}

pub cut_at : (mark : ℕ) (text : List ℕ) (i : ℕ) → position (λ b. b == mark) text ≡ Some i
    → parts mark text ≡ take i text ∷ parts mark (take (length text - (i + 1)) (drop (i + 1) text))
cut_at mark text i found =
    elim (cases_Bool (nat_lt (position_or_len (λ b. b == mark) text) (length text))) [
      | inl within ↦
          let at : position_or_len (λ b. b == mark) text ≡ i = same_Some _ _ (rw within at found) in
          let below : position_or_len (λ b. b == mark) text < length text = grind (arith, common_steps) in
          rw take_rest (rw at at (slice_split_first (λ b. b == mark) text 0 below))
      | inr past ↦ let none : None ≡ Some i = rw past at found in absurd (cc none)
    ]

pub whole : (mark : ℕ) (text : List ℕ) → position (λ b. b == mark) text ≡ None → parts mark text ≡ text ∷ []
whole mark text none =
    elim (cases_Bool (nat_lt (position_or_len (λ b. b == mark) text) (length text))) [
      | inl within ↦ let some : Some (position_or_len (λ b. b == mark) text) ≡ None =
          rw within at none in absurd (cc some)
      | inr past ↦
          let above : length text ≤ position_or_len (λ b. b == mark) text = grind (arith, common_steps) in
          slice_split_none (λ b. b == mark) text (All-from_get_or (λ b. (b == mark) ≡ false) text 0
          (λ k below. fails_before_first (λ b. b == mark) text k 0 (omega arith)))
    ]

-- a text has a part
pub has_part : (mark : ℕ) (text : List ℕ) → 0 < length (parts mark text)
has_part mark text = omega (arith, length-slice_split (λ b. b == mark) text)

pub parts_short : (mark : ℕ) (text : List ℕ) → length (parts mark text) ≤ length text + 1
parts_short mark text = omega (
  arith,
  length-slice_split (λ b. b == mark) text,
  count_by-le-length
      (λ (b : ℕ). b == mark) text,
)
