-- Groups sorted by the number of their offsets from the third on stand in the order of the windows that follow.
use Rattle.std.proofs.Common.{◌≡◌, ℕ, zero, suc, ◌+◌, ◌<◌, ◌≤◌, List, [], ◌∷◌, length, drop, map, ap, sym, ◌∙◌, arith}
use Rattle.std.proofs.Common.{inl, inr, nat_eq, refl, is_lt, is_eq}
use Rattle.std.proofs.lemmas.Bool.{cases_eq, cases_lt}
use Rattle.std.proofs.lemmas.Bool.Decides.{Decides-eqb, Decides-int_eq, nat_tests}
use Rattle.std.proofs.lemmas.Cmp.{nat_eq_equiv}
use Rattle.std.proofs.lemmas.Grind.{common_steps}
use Rattle.std.proofs.lemmas.Int.{ints}
use Rattle.std.proofs.lemmas.List.{get_or-map, length-map}
use Rattle.std.proofs.lemmas.List.Sorted.{IsPermutation-map, ties_still_rise}
use Rattle.std.proofs.lemmas.Map.Keys.{IsDistinct-IsPermutation}
use Rattle.std.proofs.lemmas.Map.Made.{AllPairs-from_IsDistinct, IsDistinct-from_AllPairs}
use Rattle.std.proofs.lemmas.Slice.Eq.{slice_eq-Decides}
use Rattle.std.specs.Prelude.{ℤ, ◌≢◌, AllPairs}
use Rattle.std.specs.List.{AllByRecursion}
use Rattle.std.specs.List.Sorted.{IsNonDecreasingBy, IsPermutation, IsSortedByKey, IsStableByKey}
use Rattle.std.specs.declared.cmp.Ordering.TheVariants.{Less, Equal, Greater}
use Rattle.std.specs.Ordering.{int_cmp, nat_cmp}
use Rattle.std.specs.Cmp.{nat_cmp_is}
use Rattle.std.specs.Cmp.Lexicographic.{slice_cmp, lists_ties}
use Rattle.landing_rules.specs.Problem.{Problem}
use Rattle.cps_nodes.specs.Digits.{number_of}
use Rattle.cps_nodes.specs.WindowOrder.{window_cmp}
use Rattle.cps_nodes.specs.Windows.{IsWindow, offset_at}
use Rattle.cps_nodes.specs.shared.NumberOrder.{IsDigit, number_order}
use Rattle.cps_network.specs.declared.groups.Group.{Group}
use Rattle.cps_network.specs.Extended.{AreGroupsOf, AreInNextOrder, IsGroupOf, front, group_at}
use Rattle.cps_network.specs.Lists.{AreWindows, IsAscending}
use Rattle.cps_network.proofs.NextOrder.{block_first, tail_first}

-- ---- the numbers of offsets stand in the order of the offsets

digits : (xs : List ℤ) → ((i : ℕ) → i < length xs → IsDigit (offset_at xs i)) → AllByRecursion IsDigit xs
digits [] is = tt
digits (x ∷ xs) is = (is 0 (omega arith), digits xs (λ i lt. is (suc i) (omega arith)))

from_third : (xs : List ℤ) → AllByRecursion IsDigit xs → AllByRecursion IsDigit (drop 2 xs)
from_third [] all = all
from_third (x ∷ []) all = tt
from_third (x ∷ (y ∷ xs)) all = all.1.1

window_digits : (width : ℕ) (xs : List ℤ) → IsWindow width xs → AllByRecursion IsDigit (drop 2 xs)
window_digits width xs is = from_third xs (digits xs (λ i lt.
    let low = is.low i (omega (arith, lt, is.len)) in
    let high = is.high i (omega (arith, lt, is.len)) in
    (omega (arith, ints, low, is.is_width), omega (arith, ints, high, is.is_width))))

two_less : (xs ys : List ℤ) → length xs ≡ length ys → length (drop 2 xs) ≡ length (drop 2 ys)
two_less xs ys long = grind (arith, common_steps)

module _ (width : ℕ) (xs ys : List ℤ) (v : IsWindow width xs) (w : IsWindow width ys) where
  numbers_cmp : slice_cmp int_cmp (drop 2 xs) (drop 2 ys) ≡ nat_cmp (number_of (drop 2 xs)) (number_of (drop 2 ys))
  numbers_cmp = number_order _ _ (window_digits width xs v) (window_digits width ys w)
      (two_less xs ys (v.len ∙ sym w.len))

  below_number : number_of (drop 2 xs) < number_of (drop 2 ys) → slice_cmp int_cmp (drop 2 xs) (drop 2 ys) ≡ Less
  below_number lt = numbers_cmp ∙ sym (nat_cmp_is _ _ Less lt)

  same_number : number_of (drop 2 xs) ≡ number_of (drop 2 ys) → drop 2 xs ≡ drop 2 ys
  same_number e = (slice_eq-Decides Decides-int_eq (drop 2 xs) (drop 2 ys) _ refl).0
      (lists_ties int_cmp (λ a b. refl) (drop 2 xs) (drop 2 ys)
      ∙ ap is_eq (numbers_cmp ∙ sym (nat_cmp_is _ _ Equal e)))

-- ---- and so do the groups

abbrev pub from_of : Group → ℕ
from_of group = group.from

abbrev pub order_of : Group → ℕ
order_of group = group.order

abbrev none : Group
none = record { from = 0; to = 0; order = 0; offsets = 0 }

module _ (p : Problem) (stage width : ℕ) (before : List (List ℤ)) (valid : AreWindows width before)
    (up : IsAscending before) (groups sorted : List Group)
    (rising : AllPairs (λ a later. a.from < later.from) groups) (moved : IsPermutation groups sorted)
    (are : AreGroupsOf p stage before sorted) (ordered : IsNonDecreasingBy order_of sorted)
    (stable : IsStableByKey order_of nat_cmp groups sorted) where
  differ : AllPairs (λ u v. u ≢ v) (map from_of sorted)
  differ = AllPairs-from_IsDistinct Decides-eqb (map from_of sorted)
      (IsDistinct-IsPermutation nat_eq nat_eq_equiv.symm (map from_of groups) (map from_of sorted)
      (IsPermutation-map from_of groups sorted moved)
      (IsDistinct-from_AllPairs Decides-eqb (map from_of groups) mapped))
    where
      mapped : AllPairs (λ u v. u ≢ v) (map from_of groups)
      mapped i j d lt within e =
          let w : j < length groups = omega (arith, within, length-map groups from_of) in
          let a = get_or-map from_of groups i none d (omega arith) in
          let b = get_or-map from_of groups j none d w in
          let less = rising i j none lt w in
          absurd (omega (arith, a, b, e, less))

  apart : (i j : ℕ) → i < j → j < length sorted → (group_at sorted i).from ≢ (group_at sorted j).from
  apart i j lt within e = differ i j 0 lt (omega (arith, within, length-map sorted from_of))
      (get_or-map from_of sorted i none 0 (omega arith) ∙ e ∙ sym (get_or-map from_of sorted j none 0 within))

  by_from : IsSortedByKey from_of nat_cmp groups
  by_from k d low within = ap is_lt (sym (nat_cmp_is _ _ Greater (rising k (k + 1) d (omega arith) within)))

  -- of equal numbers the groups are in their first order
  level_rises : (i j : ℕ) → i ≤ j → j < length sorted → (group_at sorted i).order ≡ (group_at sorted j).order
      → (group_at sorted i).from ≤ (group_at sorted j).from
  level_rises i zero le within e = let same : i ≡ 0 = omega arith in rw same (omega arith)
  level_rises i (suc j) le within e = elim (cases_eq i (suc j)) [
    | inl same ↦ rw same (omega arith)
    | inr other ↦
        let next : j + 1 ≡ suc j = omega arith in
        let a = ordered i j none (omega arith) (omega arith) in
        let b = ordered j (suc j) none (omega arith) within in
        let step = ties_still_rise from_of order_of groups sorted by_from stable j none (omega arith)
        (rw next (omega (arith, a, b, e))) in
        let here : (group_at sorted j).from ≤ (group_at sorted (suc j)).from = rw (sym next) step in
        let before = level_rises i j (omega arith) (omega arith) (omega (arith, a, b, e)) in
        omega (arith, here, before)
  ]

  module _ (i j : ℕ) (li : i < length sorted) (lj : j < length sorted) where
    here : IsGroupOf p stage before (group_at sorted i)
    here = are.each i none li

    there : IsGroupOf p stage before (group_at sorted j)
    there = are.each j none lj

    window : IsWindow width (front before sorted i)
    window = valid _ (omega (arith, here.range.some, here.range.within))

    later : IsWindow width (front before sorted j)
    later = valid _ (omega (arith, there.range.some, there.range.within))

    level : (group_at sorted i).order ≡ (group_at sorted j).order
        → drop 2 (front before sorted i) ≡ drop 2 (front before sorted j)
    level e = same_number width _ _ window later (sym here.order ∙ e ∙ there.order)

    further : (group_at sorted i).order < (group_at sorted j).order
        → slice_cmp int_cmp (drop 2 (front before sorted i)) (drop 2 (front before sorted j)) ≡ Less
    further lt = below_number width _ _ window later (omega (arith, lt, here.order, there.order))

    tails : i < j → window_cmp (drop 1 (front before sorted i)) (drop 1 (front before sorted j)) ≡ Less
    tails lt = elim (cases_lt (group_at sorted i).order (group_at sorted j).order) [
      | inl less ↦ block_first (front before sorted i) (front before sorted j) (further less)
      | inr high ↦
          let climbs = ordered i j none (omega arith) lj in
          let e : (group_at sorted i).order ≡ (group_at sorted j).order = omega (arith, high, climbs) in
          let rises = level_rises i j (omega arith) lj e in
          let differs = apart i j lt lj in
          let first : (group_at sorted i).from < (group_at sorted j).from = grind (arith, nat_tests) in
          tail_first (front before sorted i) (front before sorted j) (window.len ∙ sym later.len)
          (up _ _ first (omega (arith, there.range.some, there.range.within)))
          (λ same. let back = (there.range.exact (group_at sorted i).from
          (omega (arith, here.range.some, here.range.within))).0 same in omega (arith, back, first))
          (level e)
    ]

  pub in_next_order : AreInNextOrder before sorted
  in_next_order = record {
    rising = λ i j le within. ordered i j none le within;
    level = λ i j li lj. level i j li lj;
    further = λ i j li lj. further i j li lj;
    tails = λ i j lt within. tails i j (omega arith) within lt;
  }
