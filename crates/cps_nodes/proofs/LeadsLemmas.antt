-- One window leads to another exactly where some accepted landing extends it to that one.
use Rattle.std.proofs.Common.{[], ◌≡◌, ℕ, ◌+◌, ◌-◌, ◌/◌, ◌<◌, List, ◌∷◌, ◌++◌, length, take, get_or, refl, arith}
use Rattle.std.proofs.Common.{length-append, ◌∙◌, sym, ap, zero, suc}
use Rattle.std.specs.Prelude.{ℤ, pos, ◌+ℤ◌, ◌≤ℤ◌}
use Rattle.std.proofs.lemmas.Int.{ints}
use Rattle.std.proofs.lemmas.List.{get_or-drop, get_or-take}
use Rattle.cps_nodes.specs.Windows.{IsWindow, HoldsRank, offset_at}
use Rattle.cps_nodes.specs.Leads.{Extends, TailMeetsHead}

-- a list is its front and its last offset
front_and_last : (ys : List ℤ) → 0 < length ys → ys ≡ take (length ys - 1) ys ++ offset_at ys (length ys - 1) ∷ []
front_and_last [] h = absurd (omega arith)
front_and_last (y ∷ []) h = refl
front_and_last (y ∷ (z ∷ ys)) h = grind (arith, (front_and_last (z ∷ ys) (omega arith)))

pub TailMeetsHead-from_Extends : (xs ys : List ℤ) → Extends xs ys → TailMeetsHead xs ys
TailMeetsHead-from_Extends xs ys (o, within, can, e) = grind (arith, length-append, whole)
  where
    whole : (us vs : List ℤ) → take (length us) (us ++ vs) ≡ us
    whole [] vs = refl
    whole (u ∷ us) vs = ap (λ (zs : List ℤ). u ∷ zs) (whole us vs)

pub Extends-from_TailMeetsHead : (w : ℕ) (xs ys : List ℤ) → IsWindow w xs → IsWindow w ys → TailMeetsHead xs ys
    → Extends xs ys
Extends-from_TailMeetsHead w xs ys a b leads =
    let o : ℤ = offset_at ys (w - 1) in
    let last : length ys - 1 ≡ w - 1 = ap (λ (n : ℕ). n - 1) b.len in
    let split : ys ≡ take (length ys - 1) ys ++ offset_at ys (length ys - 1) ∷ [] = grind (arith, front_and_last) in
    grind (arith, fresh)
  where
    fresh : pos 0 ≤ℤ (offset_at ys (w - 1) +ℤ pos (w / 2)) → HoldsRank xs (pos (length xs) +ℤ offset_at ys (w - 1)) → ⊥
    fresh low (zero, lt, e) = omega (arith, ints, a.high 0 (omega (arith, a.len)), a.len, a.is_width, low)
    fresh low (suc i, lt, e) =
        let one : offset_at xs (suc i) ≡ offset_at xs (1 + i) = ap (λ (j : ℕ). offset_at xs j) (omega arith) in
        let before : i < length ys - 1 = omega (arith, a.len, b.len) in
        let moved : offset_at xs (1 + i) ≡ offset_at ys i =
        sym (get_or-drop 1 xs i (pos 0)) ∙ ap (λ (zs : List ℤ). get_or zs i (pos 0)) leads
        ∙ get_or-take (length ys - 1) ys i (pos 0) before in
        b.differ i (w - 1) (omega (arith, b.len)) (omega (arith, b.is_width)) (omega (arith, ints, e, a.len))
