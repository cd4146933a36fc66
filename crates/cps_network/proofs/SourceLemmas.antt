-- The windows that lead to one window stand side by side.
use Rattle.std.proofs.Common.{rules, ◌≡◌, ℕ, Bool, true, ◌-◌, ◌<◌, ◌≤◌, List, length, drop, take, refl, arith, ◌∙◌, sym}
use Rattle.std.proofs.Common.{ap, inl, inr, subst}
use Rattle.std.proofs.lemmas.List.{get_or_default}
use Rattle.std.specs.Prelude.{ℤ, ◌⊎◌, ◌↔◌, IsTrue}
use Rattle.std.proofs.lemmas.Bool.Decides.{nat_tests, Decides-int_eq}
use Rattle.std.proofs.lemmas.Cmp.{lists_total, int_cmp_total}
use Rattle.std.specs.declared.cmp.Ordering.{Ordering}
use Rattle.std.specs.declared.cmp.Ordering.TheVariants.{Less, Equal, Greater}
use Rattle.std.specs.Ordering.{int_cmp, int_eq, is_eq, is_lt, ordering_then}
use Rattle.std.specs.Cmp.{IsTotalOrder}
use Rattle.std.specs.List.Sorted.{IsPartitionedBy}
use Rattle.std.specs.Cmp.Lexicographic.{slice_cmp, pointwise, lists_ties}
use Rattle.cps_nodes.specs.WindowOrder.{window_cmp}
use Rattle.cps_nodes.specs.Leads.{IsBelow, TailMeetsHead}
use Rattle.std.proofs.lemmas.Slice.Eq.{slice_eq-Decides}
use Rattle.cps_network.specs.Lists.{node_at, IsAscending}
use Rattle.cps_network.specs.Begins.{BeginAt}

total : IsTotalOrder (slice_cmp int_cmp)
total = lists_total int_cmp_total

tie_is_same : (xs ys : List ℤ) → slice_cmp int_cmp xs ys ≡ Equal → xs ≡ ys
tie_is_same xs ys e = (slice_eq-Decides Decides-int_eq xs ys (pointwise int_eq xs ys) refl).0
    (lists_ties int_cmp (λ a b. refl) xs ys ∙ ap is_eq e)

-- the tails of ascending windows do not fall
tails_rise : (x y : List ℤ) → window_cmp x y ≡ Less → (slice_cmp int_cmp (drop 1 x) (drop 1 y) ≡ Less)
    ⊎ (drop 1 x ≡ drop 1 y)
tails_rise x y h = grind (arith, go)
  where
    go : (o : Ordering) → slice_cmp int_cmp (drop 1 x) (drop 1 y) ≡ o
        → ordering_then o (slice_cmp int_cmp (take 1 x) (take 1 y)) ≡ Less
        → (slice_cmp int_cmp (drop 1 x) (drop 1 y) ≡ Less) ⊎ (drop 1 x ≡ drop 1 y)
    go Less e h = inl e
    go Equal e h = inr (tie_is_same (drop 1 x) (drop 1 y) e)
    go Greater e h = cc

-- what stands before a window that is below, is below
pub IsBelow-earlier : (x y z : List ℤ) → window_cmp x y ≡ Less → IsBelow y z → IsBelow x z
IsBelow-earlier x y z up below = elim (tails_rise x y up) [
  | inl less ↦ grind (arith, total.trans)
  | inr same ↦ cc
]

-- a window that leads to another is not below it
pub not_below : (x z : List ℤ) → TailMeetsHead x z → IsBelow x z → ⊥
not_below x z leads below = grind (arith, total)

-- nothing after a window that is past those that lead to another leads to it
pub none_after : (x y z : List ℤ) → window_cmp x y ≡ Less → (IsBelow x z → ⊥) → (TailMeetsHead x z → ⊥)
    → TailMeetsHead y z → ⊥
none_after x y z up not_under not_leads leads = elim (tails_rise x y up) [
  | inl less ↦ grind arith
  | inr same ↦ not_leads (same ∙ leads)
]

same_or_before : (i j : ℕ) → i ≤ j → (i ≡ j) ⊎ (i < j)
same_or_before i j h = grind (arith, nat_tests)

-- whether a window is below a node
abbrev pub is_below : List ℤ → List ℤ → Bool
is_below node window = is_lt (slice_cmp int_cmp (drop 1 window) (take (length node - 1) node))

pub IsBelow-true : (node window : List ℤ) → is_below node window ≡ true → IsBelow window node
IsBelow-true node window passes = grind arith

pub is_below-from : (node window : List ℤ) (answer : Bool) → (IsTrue answer ↔ IsBelow window node)
    → answer ≡ is_below node window
is_below-from node window answer says = grind arith

-- of ascending windows those below a node stand before the others
pub IsPartitionedBy-is_below : (before : List (List ℤ)) (node : List ℤ) → IsAscending before
    → IsPartitionedBy (is_below node) before
IsPartitionedBy-is_below before node up i j d le within passes = elim (same_or_before i j le) [
  | inl same ↦ cc
  | inr less ↦
      let later : IsBelow (node_at before j) node = grind (arith, get_or_default) in
      let earlier : IsBelow (node_at before i) node = search (rules, IsBelow-earlier) in grind (arith, get_or_default)
]

-- the range is that of the windows that lead to the node
pub exact : (before : List (List ℤ)) (node : List ℤ) (from to : ℕ) → IsAscending before
    → ((i : ℕ) → i < from → IsBelow (node_at before i) node)
    → ((i : ℕ) → from ≤ i → i < length before → IsBelow (node_at before i) node → ⊥)
    → from ≤ to
    → ((i : ℕ) → from ≤ i → i < to → TailMeetsHead (node_at before i) node)
    → (to < length before → TailMeetsHead (node_at before to) node → ⊥)
    → (i : ℕ) → i < length before → TailMeetsHead (node_at before i) node ↔ ((from ≤ i) × (i < to))
exact before node from to up below above ordered leads stop i within =
    (grind (arith, start, end), λ range. leads i range.0 range.1)
  where
    start : TailMeetsHead (node_at before i) node → (i < from) ⊎ (from ≤ i) → from ≤ i
    start here (inl lt) = absurd (not_below (node_at before i) node here (below i lt))
    start here (inr le) = le

    end : TailMeetsHead (node_at before i) node → (i < to) ⊎ (to ≤ i) → i < to
    end here (inl lt) = lt
    end here (inr le) = elim (same_or_before to i le) [
      | inl same ↦ absurd (stop (omega arith) (subst (λ (q : ℕ). TailMeetsHead (node_at before q) node)
          (sym same) here))
      | inr less ↦ absurd (none_after (node_at before to) (node_at before i) node (up to i less within)
          (above to ordered (omega arith)) (stop (omega arith)) here)
    ]

-- where the windows that lead to a node begin at a place, all before are below and none from there on is
pub below_before : (before : List (List ℤ)) (node : List ℤ) (place : ℕ) → IsAscending before
    → BeginAt before node place → (i : ℕ) → i < place → IsBelow (node_at before i) node
below_before before node place up is i lt =
    let last : IsBelow (node_at before (place - 1)) node =
    elim (tails_rise (node_at before (place - 1)) (node_at before place)
    (up (place - 1) place (omega (arith, lt)) is.within)) [
      | inl less ↦ cc
      | inr same ↦ grind arith
    ] in
    elim (same_or_before i (place - 1) (omega (arith, lt))) [
      | inl e ↦ cc
      | inr less ↦ IsBelow-earlier (node_at before i) (node_at before (place - 1)) node
          (up i (place - 1) less (omega (arith, is.within))) last
    ]

pub none_from : (before : List (List ℤ)) (node : List ℤ) (place : ℕ) → IsAscending before → BeginAt before node place
    → (i : ℕ) → place ≤ i → i < length before → IsBelow (node_at before i) node → ⊥
none_from before node place up is i le within below = elim (same_or_before place i le) [
  | inl e ↦ grind (arith, not_below)
  | inr less ↦ search (rules, not_below, IsBelow-earlier, less)
]
