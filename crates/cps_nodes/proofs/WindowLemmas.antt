-- Laws of windows as lists of offsets.
use Rattle.std.proofs.Common.{◌≡◌, ℕ, ◌+◌, ◌/◌, ◌<◌, List, length, get_or, arith, length-append, replicate, ◌∙◌, inl}
use Rattle.std.proofs.Common.{inr}
use Rattle.std.specs.Prelude.{Bool, true, false, IsTrue, ◌↔◌, ℤ, pos, ◌+ℤ◌, ◌≤ℤ◌}
use Rattle.std.proofs.lemmas.Int.{ints}
use Rattle.std.proofs.lemmas.List.{get_or_append_left, get_or-append_right, get_or-replicate, length-replicate}
use Rattle.std.proofs.lemmas.Bool.{cases_lt}
use Rattle.cps_nodes.specs.Windows.{IsWidth, IsWindow, HoldsRank, offset_at, shifted}

-- a window of no landing
pub IsWindow-source : (w : ℕ) → IsWidth w → IsWindow w (replicate w (pos 0))
IsWindow-source w h = record {
  is_width = h;
  len = length-replicate w (pos 0);
  low = λ i lt. rw get_or-replicate (omega (arith, ints));
  high = λ i lt. rw get_or-replicate (omega (arith, ints));
  differ = grind (arith, get_or-replicate);
  due =
      let lt : w / 2 < w = omega arith in
      let a : get_or (replicate w (pos 0)) (w / 2) (pos 0) ≡ pos 0 = get_or-replicate w (w / 2) (pos 0) (pos 0) lt in
      (w / 2, (rw length-replicate lt), omega (arith, ints));
}

-- one landing more: the offset at a place is the old one a place later
pub offset_at-shifted_below : (xs : List ℤ) (o : ℤ) (i : ℕ) → i + 1 < length xs
    → offset_at (shifted xs o) i ≡ offset_at xs (i + 1)
offset_at-shifted_below xs o i h = grind (arith, get_or_append_left)

-- and the last one is the new one
pub offset_at-shifted_last : (xs : List ℤ) (o : ℤ) (i : ℕ) → i + 1 ≡ length xs → offset_at (shifted xs o) i ≡ o
offset_at-shifted_last xs o i h = grind (arith, get_or-append_right)

pub length-shifted : (xs : List ℤ) (o : ℤ) → 0 < length xs → length (shifted xs o) ≡ length xs
length-shifted xs o h = grind (arith, length-append)

-- a window after one more landing, which repeats no flight and leaves none behind
pub IsWindow-shifted : (w : ℕ) (xs : List ℤ) (o : ℤ) → IsWindow w xs → pos 0 ≤ℤ (o +ℤ pos (w / 2)) → o ≤ℤ pos (w / 2)
    → (HoldsRank xs (pos w +ℤ o) → ⊥) → HoldsRank (shifted xs o) (pos (w / 2)) → IsWindow w (shifted xs o)
IsWindow-shifted w xs o is low high fresh due =
    let some : 0 < length xs = omega (arith, is.len, is.is_width) in
    record {
      is_width = is.is_width;
      len = length-shifted xs o some ∙ is.len;
      low = grind (arith, offset_at-shifted_last, offset_at-shifted_below, is.low);
      high = grind (arith, offset_at-shifted_last, offset_at-shifted_below, is.high);
      differ = λ i j lt lw same.
          let a : offset_at (shifted xs o) i ≡ offset_at xs (i + 1) =
          offset_at-shifted_below xs o i (omega (arith, is.len)) in
          elim (cases_lt (j + 1) w) [
            | inr past ↦
                let b : offset_at (shifted xs o) j ≡ o = offset_at-shifted_last xs o j (omega (arith, is.len)) in
                fresh (i + 1, omega (arith, is.len), omega (arith, ints))
            | inl n ↦
                let b : offset_at (shifted xs o) j ≡ offset_at xs (j + 1) =
                offset_at-shifted_below xs o j (omega (arith, is.len)) in
                is.differ (i + 1) (j + 1) (omega arith) n (omega (arith, ints))
          ];
      due = due;
    }

-- what a test for a rank says, at either answer
pub held : (b : Bool) (xs : List ℤ) (r s : ℤ) → (IsTrue b ↔ HoldsRank xs r) → b ≡ true → r ≡ s → HoldsRank xs s
held b xs r s h t e = grind arith

pub not_held : (b : Bool) (xs : List ℤ) (r s : ℤ) → (IsTrue b ↔ HoldsRank xs r) → b ≡ false → r ≡ s → HoldsRank xs s → ⊥
not_held b xs r s h f e has = grind arith

-- the same test, for a rank that is written otherwise
pub tested : (b : Bool) (xs : List ℤ) (r s : ℤ) → (IsTrue b ↔ HoldsRank xs r) → r ≡ s → IsTrue b ↔ HoldsRank xs s
tested b xs r s h e = grind arith
