-- The order of windows, and that it is a total order whose ties are equal.
use Rattle.std.specs.Prelude.{◌≡◌, ℤ, ◌&&◌, List, [], ◌∷◌, take, drop, refl, Bool}
use Rattle.std.proofs.Common.{ap, ◌∙◌}
use Rattle.std.specs.declared.cmp.Ordering.{Ordering}
use Rattle.std.specs.declared.cmp.Ordering.TheVariants.{Less, Equal, Greater}
use Rattle.std.specs.Ordering.{int_cmp, int_eq, is_eq, eq_by_cmp, on, then_cmp, ordering_then}
use Rattle.std.specs.Cmp.{IsTotalOrder, int_cmp_total, on_total, then_total}
use Rattle.std.specs.Cmp.Lexicographic.{slice_cmp, pointwise, lists_total, lists_ties}

-- the order of windows: the offsets from the second on, and then the first
abbrev pub window_cmp : List ℤ → List ℤ → Ordering
window_cmp = then_cmp (on (drop 1) (slice_cmp int_cmp)) (on (take 1) (slice_cmp int_cmp))

pub window_cmp_total : IsTotalOrder window_cmp
window_cmp_total = then_total (on_total (drop 1) (lists_total int_cmp_total))
    (on_total (take 1) (lists_total int_cmp_total))

-- both parts tie exactly where both answers do
both_tie : (a b : Ordering) → (is_eq b && is_eq a) ≡ is_eq (ordering_then a (ordering_then b Equal))
both_tie Less Less = refl
both_tie Less Equal = refl
both_tie Less Greater = refl
both_tie Equal Less = refl
both_tie Equal Equal = refl
both_tie Equal Greater = refl
both_tie Greater Less = refl
both_tie Greater Equal = refl
both_tie Greater Greater = refl

pub window_ties : (xs ys : List ℤ) → pointwise int_eq xs ys ≡ eq_by_cmp window_cmp xs ys
window_ties [] [] = refl
window_ties [] (y ∷ []) = refl
window_ties [] (y ∷ (z ∷ ys)) = refl
window_ties (x ∷ []) [] = refl
window_ties (x ∷ (z ∷ xs)) [] = refl
window_ties (x ∷ xs) (y ∷ ys) = ap (λ (b : Bool). int_eq x y && b) (lists_ties int_cmp (λ a b. refl) xs ys)
    ∙ both_tie (slice_cmp int_cmp xs ys) (int_cmp x y)
