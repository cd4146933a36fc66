-- Lists of pairs with one pair more.
use Rattle.std.proofs.Common.{rules, ◌≡◌, ℕ, zero, suc, ◌<◌, ◌⊎◌, inl, inr, List, [], ◌∷◌, length, set, get_or, true}
use Rattle.std.proofs.Common.{refl, sym, subst, ◌∙◌, arith}
use Rattle.std.proofs.lemmas.Grind.{common_steps}
use Rattle.std.specs.Prelude.{All}
use Rattle.std.proofs.lemmas.List.{get_or_default}
use Rattle.cps_theory.specs.Labels.{InPairs, NoWorse, Pair}
use Rattle.std.specs.List.{list_all}
use Rattle.std.specs.List.Sorted.{IsPermutation, IsSorted}
use Rattle.std.specs.Ordering.{nat_cmp, ordering_then}
use Rattle.std.proofs.lemmas.List.Elements.{All-head, All-tail}
use Rattle.cps_theory.specs.UndominatedPairs.{sweep}
use Rattle.cps_theory.specs.laws.Staircases.{sweep_covers, sweep_staircase, sweep_subset}
use Rattle.certificate.specs.States.{is_pair, rises}
use Rattle.cert_check.specs.shared.KeptPairs.{staircase_rises}
use Rattle.cert_writer.specs.Gathered.{IsPairInRange}
use Rattle.cps_network.specs.shared.PairLists.{all_in, in_all, in_permuted, permuted_in, sorted_in_order}
use Rattle.cps_network.specs.Pairs.{pair_at}
use Rattle.cps_network.specs.shared.PairSteps.{at_in}

pub itself : (q : Pair) → NoWorse q q
itself q = omega arith

-- a pair in place of the last one
pub in_replaced : (xs : List Pair) (i : ℕ) (p q : Pair) → InPairs q (set xs i p) → InPairs q xs ⊎ (q ≡ p)
in_replaced [] i p q h = absurd h
in_replaced (x ∷ xs) zero p q (inl e) = inr e
in_replaced (x ∷ xs) zero p q (inr h) = inl (inr h)
in_replaced (x ∷ xs) (suc i) p q (inl e) = inl (inl e)
in_replaced (x ∷ xs) (suc i) p q (inr h) = grind (arith, in_replaced xs i p q h)

pub replaced_in : (xs : List Pair) (i : ℕ) (p q : Pair) → InPairs q xs → InPairs q (set xs i p) ⊎ (q ≡ pair_at xs i)
replaced_in [] i p q h = absurd h
replaced_in (x ∷ xs) zero p q (inl e) = inr e
replaced_in (x ∷ xs) zero p q (inr h) = inl (inr h)
replaced_in (x ∷ xs) (suc i) p q (inl e) = inl (inl e)
replaced_in (x ∷ xs) (suc i) p q (inr h) = grind (arith, replaced_in xs i p q h)

pub new_in : (xs : List Pair) (i : ℕ) (p : Pair) → i < length xs → InPairs p (set xs i p)
new_in [] i p lt = absurd (omega arith)
new_in (x ∷ xs) zero p lt = inl refl
new_in (x ∷ xs) (suc i) p lt = inr (new_in xs i p (omega arith))

-- the element that is read at an index
pub read_in : (xs : List Pair) (i : ℕ) (x : Pair) → i < length xs → x ≡ get_or xs i x → InPairs x xs
read_in xs i x lt e = at_in xs i x lt (get_or_default xs i (0, 0) x lt ∙ sym e)

pub read_same : (xs : List Pair) (i : ℕ) (x : Pair) → i < length xs → x ≡ get_or xs i x → pair_at xs i ≡ x
read_same xs i x lt e = grind (arith, common_steps)

-- ---- the best of pairs

ranged_all : (xs : List Pair) → All IsPairInRange xs → list_all is_pair xs ≡ true
ranged_all [] h = refl
ranged_all (x ∷ xs) h =
    let r = All-head IsPairInRange x xs h in grind (arith, ranged_all xs (All-tail IsPairInRange x xs h))

module _ (mine sorted best : List Pair) (moved : IsPermutation mine sorted)
    (up : IsSorted (λ (x y : Pair). ordering_then (nat_cmp x.0 y.0) (nat_cmp x.1 y.1)) sorted)
    (is : best ≡ sweep 4294967296 sorted) where
  pub best_found : (q : Pair) → InPairs q best → InPairs q mine
  best_found q i = permuted_in mine sorted moved q (sweep_subset 4294967296 sorted q (subst (InPairs q) is i))

  pub best_covers : All IsPairInRange mine → (q : Pair) → InPairs q mine → (o : Pair) × InPairs o best × NoWorse o q
  best_covers ranged q i = elim (sweep_covers 4294967296 sorted (sorted_in_order sorted up) q
      (in_permuted mine sorted moved q i)) [
        | inl h ↦ (h.0, subst (InPairs h.0) (sym is) h.1, h.2)
        | inr le ↦ absurd (let a = (all_in IsPairInRange mine ranged q i).1 in omega (arith, a, le))
      ]

  pub best_rises : rises best ≡ true
  best_rises = search (rules, staircase_rises, sweep_staircase, sorted_in_order)

  pub best_ranged : All IsPairInRange mine → list_all is_pair best ≡ true
  best_ranged ranged = ranged_all best
      (in_all IsPairInRange best (λ q i. all_in IsPairInRange mine ranged q (best_found q i)))
