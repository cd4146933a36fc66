-- The first offset of a window tells nothing of what may land next.
use Rattle.std.proofs.Common.{rules, ◌≡◌, ℕ, ◌/◌, List, ◌∷◌, ◌++◌, length, drop, arith, ◌∙◌, sym, ap, inl, inr, zero}
use Rattle.std.proofs.Common.{[], suc}
use Rattle.std.specs.Prelude.{ℤ, pos, ◌+ℤ◌, ◌≤ℤ◌, ◌⊎◌}
use Rattle.std.proofs.lemmas.Int.{ints}
use Rattle.cps_nodes.specs.Leads.{GoOnAlike}
use Rattle.cps_nodes.specs.Windows.{IsWindow, HoldsRank, Accepts, shifted, IsPlaced}

-- a rank that the one holds at a later place, the other holds too
HoldsRank-same_tail : (w : ℕ) (xs ys : List ℤ) (rank : ℤ) → IsWindow w xs → IsWindow w ys → drop 1 xs ≡ drop 1 ys
    → HoldsRank xs rank → (rank ≤ℤ pos (w / 2)) ⊎ HoldsRank ys rank
HoldsRank-same_tail w xs ys rank a b e (zero, lt, at) = grind arith
HoldsRank-same_tail w xs ys rank a b e (suc i, lt, at) = grind arith

pub shifted-same_tail : (xs ys : List ℤ) (o : ℤ) → drop 1 xs ≡ drop 1 ys → shifted xs o ≡ shifted ys o
shifted-same_tail xs ys o e = ap (λ (zs : List ℤ). zs ++ o ∷ []) e

pub Accepts-same_tail : (w : ℕ) (xs ys : List ℤ) (o : ℤ) → IsWindow w xs → IsWindow w ys → drop 1 xs ≡ drop 1 ys
    → pos 0 ≤ℤ (o +ℤ pos (w / 2)) → Accepts xs o → Accepts ys o
Accepts-same_tail w xs ys o a b e low can =
    let same : length xs ≡ length ys = a.len ∙ sym b.len in
    record {
      fresh = λ h. elim (HoldsRank-same_tail w ys xs (pos (length ys) +ℤ o) b a (sym e) h) [
        | inl early ↦ search rules
        | inr holds ↦ grind arith
      ];
      due = grind arith;
    }

pub IsPlaced-same_tail : (w : ℕ) (xs ys : List ℤ) (stage rank : ℤ) → IsWindow w xs → IsWindow w ys
    → drop 1 xs ≡ drop 1 ys
    → IsPlaced xs stage rank → IsPlaced ys stage rank
IsPlaced-same_tail w xs ys stage rank a b e placed =
    let same : length xs ≡ length ys = a.len ∙ sym b.len in
    elim placed [
      | inl due ↦ inl (rw (← same) due)
      | inr holds ↦ elim (HoldsRank-same_tail w xs ys _ a b e holds) [
        | inl early ↦ inl (omega (arith, ints, a.len, b.len, a.is_width, early))
        | inr there ↦ grind arith
      ]
    ]

-- two windows with the same offsets from the second on go on alike
pub GoOnAlike-same_tail : (w : ℕ) (xs ys : List ℤ) → IsWindow w xs → IsWindow w ys → drop 1 xs ≡ drop 1 ys
    → GoOnAlike xs ys
GoOnAlike-same_tail w xs ys a b e = record {
  accepts = grind (arith, Accepts-same_tail);
  next = λ o. shifted-same_tail xs ys o e;
  placed = grind (arith, IsPlaced-same_tail);
}
