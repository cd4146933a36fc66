-- The order of windows after one landing more: the offsets from the third on, the new one, and then the second.
use Rattle.std.proofs.Common.{◌≡◌, ℕ, ◌<◌, List, [], ◌∷◌, ◌++◌, length, drop, take, refl, ap, ap₂, sym, ◌∙◌, arith}
use Rattle.std.proofs.lemmas.Grind.{common_steps}
use Rattle.std.proofs.lemmas.Int.{ints}
use Rattle.std.specs.Prelude.{ℤ, ◌<ℤ◌, All}
use Rattle.std.specs.declared.cmp.Ordering.{Ordering}
use Rattle.std.specs.declared.cmp.Ordering.TheVariants.{Less, Equal, Greater}
use Rattle.std.specs.Ordering.{int_cmp, ordering_then, MatchOrdering}
use Rattle.std.specs.Cmp.{int_cmp_is, int_ranks}
use Rattle.std.specs.Cmp.Lexicographic.{slice_cmp}
use Rattle.cps_nodes.specs.WindowOrder.{window_cmp}
use Rattle.cps_network.specs.declared.groups.Group.{Group}
use Rattle.cps_network.specs.Extended.{AreInNextOrder, FollowsBy, IsExtendable, front, group_at, offset_of}
use Rattle.cps_network.specs.Lists.{AreWindows}

then_equal : (o : Ordering) → ordering_then o Equal ≡ o
then_equal Less = refl
then_equal Equal = refl
then_equal Greater = refl

then_then : (o p q : Ordering) → ordering_then o (ordering_then p q) ≡ ordering_then (ordering_then o p) q
then_then Less p q = refl
then_then Equal p q = refl
then_then Greater p q = refl

same_cmp : (d : ℤ) → int_cmp d d ≡ Equal
same_cmp d = sym (int_cmp_is d d Equal refl)

list_cmp : (xs : List ℤ) → slice_cmp int_cmp xs xs ≡ Equal
list_cmp [] = refl
list_cmp (x ∷ xs) = ap₂ ordering_then (same_cmp x) (list_cmp xs)

-- a last offset decides where the others are equal
push_cmp : (xs ys : List ℤ) (d e : ℤ) → length xs ≡ length ys
    → slice_cmp int_cmp (xs ++ d ∷ []) (ys ++ e ∷ []) ≡ ordering_then (slice_cmp int_cmp xs ys) (int_cmp d e)
push_cmp [] [] d e long = then_equal (int_cmp d e)
push_cmp [] (y ∷ ys) d e long = absurd (omega arith)
push_cmp (x ∷ xs) [] d e long = absurd (omega arith)
push_cmp (x ∷ xs) (y ∷ ys) d e long =
    ap (ordering_then (int_cmp x y)) (push_cmp xs ys d e (omega arith))
    ∙ then_then (int_cmp x y) (slice_cmp int_cmp xs ys) (int_cmp d e)

-- of two tails, the first one's windows come first: by the same offset, where it comes first itself
pub by_tail : (t u : List ℤ) (d : ℤ) → length t ≡ length u → window_cmp t u ≡ Less
    → window_cmp (t ++ d ∷ []) (u ++ d ∷ []) ≡ Less
by_tail [] [] d long less = absurd cc
by_tail [] (y ∷ u) d long less = absurd (omega arith)
by_tail (x ∷ t) [] d long less = absurd (omega arith)
by_tail (x ∷ t) (y ∷ u) d long less =
    ap (λ (o : Ordering). ordering_then o (slice_cmp int_cmp (x ∷ []) (y ∷ [])))
    (push_cmp t u d d (omega arith) ∙ ap (ordering_then (slice_cmp int_cmp t u)) (same_cmp d)
    ∙ then_equal (slice_cmp int_cmp t u))
    ∙ less

-- by a lower offset, where both are the same from their second offsets on
pub by_offset : (t u : List ℤ) (d e : ℤ) → length t ≡ length u → drop 1 t ≡ drop 1 u → d <ℤ e
    → window_cmp (t ++ d ∷ []) (u ++ e ∷ []) ≡ Less
by_offset [] [] d e long same lower = rw (sym (int_cmp_is d e Less lower)) refl
by_offset [] (y ∷ u) d e long same lower = absurd (omega arith)
by_offset (x ∷ t) [] d e long same lower = absurd (omega arith)
by_offset (x ∷ t) (y ∷ u) d e long same lower =
    ap (λ (o : Ordering). ordering_then o (slice_cmp int_cmp (x ∷ []) (y ∷ [])))
    (push_cmp t u d e (omega arith) ∙ ap₂ ordering_then (ap (slice_cmp int_cmp t) (sym same) ∙ list_cmp t)
    (sym (int_cmp_is d e Less lower)))

-- and by any offsets, where it comes first by its offsets from the second on
pub by_block : (t u : List ℤ) (d e : ℤ) → length t ≡ length u → slice_cmp int_cmp (drop 1 t) (drop 1 u) ≡ Less
    → window_cmp (t ++ d ∷ []) (u ++ e ∷ []) ≡ Less
by_block [] [] d e long less = absurd cc
by_block [] (y ∷ u) d e long less = absurd (omega arith)
by_block (x ∷ t) [] d e long less = absurd (omega arith)
by_block (x ∷ t) (y ∷ u) d e long less =
    ap (λ (o : Ordering). ordering_then o (slice_cmp int_cmp (x ∷ []) (y ∷ [])))
    (push_cmp t u d e (omega arith) ∙ ap (λ (o : Ordering). ordering_then o (int_cmp d e)) less)

drop_twice : (a : List ℤ) → drop 1 (drop 1 a) ≡ drop 2 a
drop_twice [] = refl
drop_twice (x ∷ []) = refl
drop_twice (x ∷ (y ∷ a)) = refl

-- of two windows with different tails that are the same from the third offset on, the first has the first tail
pub tail_first : (a b : List ℤ) → length a ≡ length b → window_cmp a b ≡ Less → (drop 1 a ≡ drop 1 b → ⊥)
    → drop 2 a ≡ drop 2 b → window_cmp (drop 1 a) (drop 1 b) ≡ Less
tail_first [] [] long less apart same = absurd (apart refl)
tail_first [] (y ∷ b) long less apart same = absurd (omega arith)
tail_first (x ∷ a) [] long less apart same = absurd (omega arith)
tail_first (x ∷ []) (y ∷ []) long less apart same = absurd (apart refl)
tail_first (x ∷ []) (y ∷ (z ∷ b)) long less apart same = absurd (omega arith)
tail_first (x ∷ (w ∷ a)) (y ∷ []) long less apart same = absurd (omega arith)
tail_first (x ∷ (w ∷ a)) (y ∷ (z ∷ b)) long less apart same = by (int_cmp w z) refl (int_ranks w z)
  where
    level : slice_cmp int_cmp a b ≡ Equal
    level = ap (slice_cmp int_cmp a) (sym same) ∙ list_cmp a

    first : (o : Ordering) → o ≡ int_cmp w z → window_cmp (w ∷ a) (z ∷ b) ≡ o
    first o e = ap₂ ordering_then level (then_equal (int_cmp w z)) ∙ sym e

    by : (o : Ordering) → o ≡ int_cmp w z → MatchOrdering o (w <ℤ z) (w ≡ z) (z <ℤ w)
        → window_cmp (w ∷ a) (z ∷ b) ≡ Less
    by Less e h = first Less e
    by Equal e h = absurd (apart (ap₂ (λ (v : ℤ) vs. v ∷ vs) h same))
    by Greater e h = absurd cc

-- the same from the offsets from the third on
pub block_first : (a b : List ℤ) → slice_cmp int_cmp (drop 2 a) (drop 2 b) ≡ Less
    → window_cmp (drop 1 a) (drop 1 b) ≡ Less
block_first a b less =
    ap (λ (o : Ordering). ordering_then o (slice_cmp int_cmp (take 1 (drop 1 a)) (take 1 (drop 1 b))))
    (ap₂ (slice_cmp int_cmp) (drop_twice a) (drop_twice b) ∙ less)

less_one : (a b : List ℤ) → length a ≡ length b → length (drop 1 a) ≡ length (drop 1 b)
less_one a b long = grind (arith, common_steps)

module _ (width : ℕ) (before : List (List ℤ)) (groups : List Group) (valid : AreWindows width before)
    (each : All (IsExtendable width before) groups) (order : AreInNextOrder before groups) where
  tail_long : (i k : ℕ) → i < length groups → k < length groups
      → length (drop 1 (front before groups i)) ≡ length (drop 1 (front before groups k))
  tail_long i k li lk =
      let a : length (front before groups i) ≡ width = (valid _ (each i _ li).within).len in
      let b : length (front before groups k) ≡ width = (valid _ (each k _ lk).within).len in
      less_one _ _ (a ∙ sym b)

  -- what follows a group by an offset is below what follows a later one by the same
  pub later_group : (i k j : ℕ) (x y : List ℤ) → i < k → k < length groups
      → FollowsBy width before (group_at groups i) j x → FollowsBy width before (group_at groups k) j y
      → window_cmp x y ≡ Less
  later_group i k j x y lt few f g =
      ap₂ window_cmp f.is g.is
      ∙ by_tail _ _ (offset_of width j) (tail_long i k (omega arith) few) (order.tails i k lt few)

  -- and than what follows one of its block by a later offset
  pub later_offset : (i k j l : ℕ) (x y : List ℤ) → i < length groups → k < length groups
      → (group_at groups i).order ≡ (group_at groups k).order → j < l
      → FollowsBy width before (group_at groups i) j x → FollowsBy width before (group_at groups k) l y
      → window_cmp x y ≡ Less
  later_offset i k j l x y li lk level lt f g =
      ap₂ window_cmp f.is g.is
      ∙ by_offset _ _ (offset_of width j) (offset_of width l) (tail_long i k li lk)
      (drop_twice (front before groups i) ∙ order.level i k li lk level ∙ sym (drop_twice (front before groups k)))
      (omega (arith, ints, lt))

  -- and than what follows one of a later block
  pub later_block : (i k j l : ℕ) (x y : List ℤ) → i < length groups → k < length groups
      → (group_at groups i).order < (group_at groups k).order
      → FollowsBy width before (group_at groups i) j x → FollowsBy width before (group_at groups k) l y
      → window_cmp x y ≡ Less
  later_block i k j l x y li lk lt f g =
      ap₂ window_cmp f.is g.is
      ∙ by_block _ _ (offset_of width j) (offset_of width l) (tail_long i k li lk)
      (ap₂ (slice_cmp int_cmp) (drop_twice (front before groups i)) (drop_twice (front before groups k))
      ∙ order.further i k li lk lt)
