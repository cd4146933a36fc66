-- Patterns compare as lists of digits, and the order is total.
use Rattle.std.specs.Prelude.{◌≡◌, List, Bool, true, false, Some, refl}
use Rattle.std.proofs.Math.Bool.{beq}
use Rattle.std.specs.Ordering.{bool_cmp, eq_by_cmp}
use Rattle.std.specs.Cmp.{IsEquivalence, IsTotalOrder, IsPartialOrder, bool_eq_equiv, bool_cmp_total, po}
use Rattle.std.proofs.lemmas.Cmp.{lists_equiv, lists_total}
use Rattle.std.specs.Cmp.Lexicographic.{pointwise, slice_cmp, lists_ties}

pub patterns_equiv : IsEquivalence (pointwise beq)
patterns_equiv = lists_equiv bool_eq_equiv

pub patterns_total : IsTotalOrder (slice_cmp bool_cmp)
patterns_total = lists_total bool_cmp_total

digits_tie : (x y : Bool) → beq x y ≡ eq_by_cmp bool_cmp x y
digits_tie true true = refl
digits_tie true false = refl
digits_tie false true = refl
digits_tie false false = refl

pub patterns_ties : (xs ys : List Bool) → pointwise beq xs ys ≡ eq_by_cmp (slice_cmp bool_cmp) xs ys
patterns_ties = lists_ties bool_cmp digits_tie

pub patterns_po : IsPartialOrder (pointwise beq) (λ xs ys. Some (slice_cmp bool_cmp xs ys))
patterns_po = po patterns_total patterns_ties
