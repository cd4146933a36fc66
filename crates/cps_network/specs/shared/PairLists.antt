-- Lists of pairs: what they have, in whatever order, and pairs in order.
use Rattle.std.proofs.Common.{[], rules, ◌≡◌, ℕ, suc, ◌<◌, ◌≤◌, ◌⊎◌, inl, inr, List, ◌∷◌, ◌++◌, length, refl, ap, subst}
use Rattle.std.proofs.Common.{◌∙◌, arith}
use Rattle.std.specs.Prelude.{Contains, All}
use Rattle.std.specs.List.Sorted.{IsPermutation, IsSorted}
use Rattle.std.specs.Ordering.{nat_cmp, ordering_then}
use Rattle.std.proofs.lemmas.List.{get_or_default}
use Rattle.std.proofs.lemmas.List.Sorted.{Contains-permutation, IsPermutation-sym}
use Rattle.cps_theory.specs.Labels.{InPairs, Pair}
use Rattle.cps_theory.specs.UndominatedPairs.{InPairOrder}
use Rattle.cps_network.specs.Pairs.{pair_at}
use Rattle.cps_network.specs.shared.PairSteps.{in_at, at_in}

pub in_append : (q : Pair) (xs ys : List Pair) → InPairs q (xs ++ ys) → InPairs q xs ⊎ InPairs q ys
in_append q [] ys i = inr i
in_append q (x ∷ xs) ys (inl e) = inl (inl e)
in_append q (x ∷ xs) ys (inr i) = grind (arith, (in_append q xs ys i))

pub in_left : (q : Pair) (xs ys : List Pair) → InPairs q xs → InPairs q (xs ++ ys)
in_left q [] ys i = absurd i
in_left q (x ∷ xs) ys (inl e) = inl e
in_left q (x ∷ xs) ys (inr i) = inr (in_left q xs ys i)

pub in_right : (q : Pair) (xs ys : List Pair) → InPairs q ys → InPairs q (xs ++ ys)
in_right q [] ys i = i
in_right q (x ∷ xs) ys i = inr (in_right q xs ys i)

pub in_contains : (q : Pair) (xs : List Pair) → InPairs q xs → Contains xs q
in_contains q xs i = search (rules, in_at, get_or_default)

pub contains_in : (q : Pair) (xs : List Pair) → Contains xs q → InPairs q xs
contains_in q xs (i, lt, e) = at_in xs i q lt (get_or_default xs i (0, 0) q lt ∙ e)

pub all_in : (P : Pair → Type 0) (xs : List Pair) → All P xs → (q : Pair) → InPairs q xs → P q
all_in P xs all q i = let a = in_at q xs i in subst P a.2 (all a.0 (0, 0) a.1)

pub in_all : (P : Pair → Type 0) (xs : List Pair) → ((q : Pair) → InPairs q xs → P q) → All P xs
in_all P xs h i d lt = search (rules, at_in, get_or_default)

pub in_permuted : (xs ys : List Pair) → IsPermutation xs ys → (q : Pair) → InPairs q xs → InPairs q ys
in_permuted xs ys moved q i = search (rules, contains_in, Contains-permutation, in_contains)

pub permuted_in : (xs ys : List Pair) → IsPermutation xs ys → (q : Pair) → InPairs q ys → InPairs q xs
permuted_in xs ys moved q i = search (rules, in_permuted, IsPermutation-sym)

-- ---- pairs in order

abbrev Later : Pair → Pair → Type 0
Later a b = (a.0 < b.0) ⊎ ((a.0 ≡ b.0) × (a.1 ≤ b.1))

in_order : (xs : List Pair) → ((j m : ℕ) → m ≡ suc j → m < length xs → Later (pair_at xs j) (pair_at xs m))
    → InPairOrder xs
in_order [] h = tt
in_order (x ∷ []) h = (λ q i. absurd i, tt)
in_order (x ∷ (y ∷ ys)) h =
    let rest = in_order (y ∷ ys) (λ j m e lt. h (suc j) (suc m) (ap suc e) (omega arith)) in
    (λ q i. through (h 0 1 refl (omega arith)) q (later rest q i), rest)
  where
    later : InPairOrder (y ∷ ys) → (q : Pair) → InPairs q (y ∷ ys) → Later y q
    later o q (inl e) = inr (grind arith)
    later o q (inr i) = o.0 q i

    through : Later x y → (q : Pair) → Later y q → Later x q
    through a q b = grind arith

pub sorted_in_order : (xs : List Pair) → IsSorted (λ (x y : Pair). ordering_then (nat_cmp x.0 y.0) (nat_cmp x.1 y.1)) xs
    → InPairOrder xs
sorted_in_order xs up = grind (arith, in_order)
