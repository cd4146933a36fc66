-- The order of nodes is total, so a binary search in states in that order finds the one of a node, and what it lists is
-- all that is listed there.
use Rattle.std.proofs.Common.{◌≡◌, ℕ, zero, suc, ◌+◌, ◌<◌, Bool, true, false, ◌||◌, List, [], ◌∷◌, length}
use Rattle.std.proofs.Common.{get_or, refl, ap, arith}
use Rattle.std.specs.List.{list_any}
use Rattle.std.specs.Ordering.{nat_cmp, bool_cmp, ordering_then, ordering_index, is_eq, is_lt}
use Rattle.std.specs.declared.cmp.Ordering.{Ordering}
use Rattle.std.specs.declared.cmp.Ordering.TheVariants.{Less, Equal, Greater}
use Rattle.std.specs.Cmp.{IsTotalOrder, bool_cmp_total}
use Rattle.std.specs.Cmp.Lexicographic.{slice_cmp}
use Rattle.std.specs.List.Sorted.{IsNonDecreasingBy}
use Rattle.std.proofs.lemmas.Cmp.{then_total, on_total, nat_cmp_total, lists_total}
use Rattle.std.proofs.lemmas.List.Sorted.{searchable_from_sorted}
use Rattle.std.proofs.lemmas.Bool.{cases_lt, cases_eq}
use Rattle.cps_theory.specs.Labels.{Pair, no_worse}
use Rattle.cps_theory.specs.Patterns.{PatternNode}
use Rattle.cps_theory.specs.CertificateClosure.{InNodeOrder, covers, covers_at, node_cmp}

nat_tie : (m n : ℕ) → nat_cmp m n ≡ Equal → m ≡ n
nat_tie m n e = grind (arith, cases_lt, cases_eq)

then_tie : (a b : Ordering) → ordering_then a b ≡ Equal → (a ≡ Equal) × (b ≡ Equal)
then_tie a b e = grind arith

bool_tie : (a b : Bool) → bool_cmp a b ≡ Equal → a ≡ b
bool_tie a b e = grind arith

list_tie : (xs ys : List Bool) → slice_cmp bool_cmp xs ys ≡ Equal → xs ≡ ys
list_tie [] ys e = grind (arith, then_tie, bool_tie)
list_tie (x ∷ xs) ys e = grind (arith, then_tie, bool_tie, list_tie xs)

pub eq_of : (o : Ordering) → is_eq o ≡ true → o ≡ Equal
eq_of o e = grind arith

abbrev pack : ℕ → List Bool → ℕ → PatternNode
pack i xs m = (i, xs, m)

pub node_tie : (a b : PatternNode) → node_cmp a b ≡ Equal → a ≡ b
node_tie a b e =
    let s = then_tie _ _ e in
    let t = then_tie _ _ s.1 in
    let z = nat_tie a.2 b.2 t.1 in
    whole a.0 b.0 a.1 b.1 a.2 b.2 (nat_tie a.0 b.0 s.0) (list_tie a.1 b.1 t.0) z
  where
    whole : (i j : ℕ) (xs ys : List Bool) (m n : ℕ) → i ≡ j → xs ≡ ys → m ≡ n → pack i xs m ≡ pack j ys n
    whole i j xs ys m n e f h = rw (e, f, h) refl

pub node_total : IsTotalOrder node_cmp
node_total = then_total (on_total (λ (w : PatternNode). w.0) nat_cmp_total)
    (then_total (on_total (λ (w : PatternNode). w.1) (lists_total bool_cmp_total))
    (on_total (λ (w : PatternNode). w.2) nat_cmp_total))

less_of : (o : Ordering) → is_lt o ≡ true → o ≡ Less
less_of o e = grind arith

module _ {S : Type 0} (node_of : S → PatternNode) (pairs_of : S → List Pair) where
  -- the order of a state and a node
  abbrev pub to_node : PatternNode → S → Ordering
  to_node w s = node_cmp (node_of s) w

  -- a state before one that is at the place, or before it, is before it
  before_equal : (s t : S) (w : PatternNode) → node_cmp (node_of s) (node_of t) ≡ Less → to_node w t ≡ Equal
      → to_node w s ≡ Less
  before_equal s t w lt eq = grind (arith, node_total)

  -- a state after one that is at the place is after it
  after_equal : (s t : S) (w : PatternNode) → node_cmp (node_of s) (node_of t) ≡ Less → to_node w s ≡ Equal
      → to_node w t ≡ Greater
  after_equal s t w lt eq = grind (arith, node_total)

  adjacent : (ss : List S) → InNodeOrder node_of pairs_of ss → (k : ℕ) (d : S) → k + 1 < length ss
      → is_lt (node_cmp (node_of (get_or ss (k + 1) d)) (node_of (get_or ss k d))) ≡ false
  adjacent (a ∷ b ∷ rest) h zero d lt = grind (arith, node_total, less_of)
  adjacent (a ∷ b ∷ rest) h (suc k) d lt =
      let e : suc k + 1 ≡ suc (k + 1) = omega arith in grind (arith, adjacent (b ∷ rest), adjacent (b ∷ rest) h.1 k d)
  adjacent ss h k d lt = grind arith

  pub non_decreasing : (w : PatternNode) (ss : List S) → InNodeOrder node_of pairs_of ss
      → IsNonDecreasingBy (λ s. ordering_index (to_node w s)) ss
  non_decreasing w ss h = searchable_from_sorted node_total node_of ss w (λ k d a b. adjacent ss h k d b)

  -- the first of an ascending list comes before each other
  head_below : (a : S) (rest : List S) → InNodeOrder node_of pairs_of (a ∷ rest) → (k : ℕ) (d : S)
      → k < length rest → node_cmp (node_of a) (node_of (get_or rest k d)) ≡ Less
  head_below a [] h k d lt = grind (arith, less_of, node_total)
  head_below a (b ∷ rest) h k d lt = grind (arith, less_of, node_total, head_below a rest)

  -- ---- what is listed at a place

  not_at : (w : PatternNode) (q : Pair) (s : S) → is_eq (to_node w s) ≡ false → covers_at node_of pairs_of w q s ≡ false
  not_at w q s e = rw e refl

  pub none_covers : (w : PatternNode) (q : Pair) (ss : List S)
      → ((k : ℕ) (d : S) → k < length ss → is_eq (to_node w (get_or ss k d)) ≡ false)
      → covers node_of pairs_of ss w q ≡ false
  unfolding covers
  none_covers w q [] h = refl
  none_covers w q (s ∷ ss) h =
      rw (not_at w q s (h zero s (omega arith))) (none_covers w q ss (λ k d lt. h (suc k) d (omega arith)))

  tail_ascending : (a : S) (rest : List S) → InNodeOrder node_of pairs_of (a ∷ rest) → InNodeOrder node_of pairs_of rest
  tail_ascending a rest h = grind arith

  pub found_covers : (w : PatternNode) (q : Pair) (ss : List S) → InNodeOrder node_of pairs_of ss
      → (i : ℕ) (d : S) → i < length ss → to_node w (get_or ss i d) ≡ Equal
      → covers node_of pairs_of ss w q ≡ list_any (λ o. no_worse o q) (pairs_of (get_or ss i d))
  unfolding covers
  found_covers w q [] h i d lt e = absurd (omega arith)
  found_covers w q (s ∷ ss) h zero d lt e =
      let rest = none_covers w q ss (λ k f l. ap is_eq (after_equal s _ w (head_below s ss h k f l) e)) in grind arith
    where
      or_false : (b : Bool) → b || false ≡ b
      or_false true = refl
      or_false false = refl
  found_covers w q (s ∷ ss) h (suc i) d lt e =
      let out = not_at w q s (ap is_eq (before_equal s (get_or ss i d) w (head_below s ss h i d (omega arith)) e)) in
      rw out (found_covers w q ss (tail_ascending s ss h) i d (omega arith) e)
