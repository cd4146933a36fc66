-- The listed states of a certificate, as tests: what they cover, and which successor pair they miss first.
use Rattle.std.specs.Prelude.{◌≡◌, ℕ, suc, ◌+◌, ◌-◌, ◌⊎◌, ◌&&◌, ◌||◌, ◌==◌, not, List, [], ◌∷◌, get_or, Bool, true}
use Rattle.std.specs.Prelude.{false, nat_le, nat_lt, Option, Some, None, is_none}
use Rattle.std.specs.Option.{option_or}
use Rattle.std.specs.List.{list_any}
use Rattle.std.specs.Ordering.{nat_cmp, bool_cmp, ordering_then, is_eq, is_lt}
use Rattle.std.specs.declared.cmp.Ordering.{Ordering}
use Rattle.std.specs.Cmp.Lexicographic.{slice_cmp}
use Rattle.cps_theory.specs.Labels.{InPairs, Pair, next_pair, no_worse}
use Rattle.cps_theory.specs.LegalPrefix.{OrderRules}
use Rattle.cps_theory.specs.Patterns.{PatternNode, pattern_node, pattern_push}
use Rattle.cps_theory.specs.FirstFound.{first_from, with_number}

-- the order of nodes: by stage, then by pattern, then by latest rank
abbrev pub node_cmp : PatternNode → PatternNode → Ordering
node_cmp a b = ordering_then (nat_cmp a.0 b.0) (ordering_then (slice_cmp bool_cmp a.1 b.1) (nat_cmp a.2 b.2))

-- ---- what may come next, as tests

-- the pattern says that rank x is placed
unfoldable pub is_placed_by_pattern : ℕ → PatternNode → ℕ → Bool
is_placed_by_pattern k w x = nat_le (x + k) w.0 || get_or w.1 (x + k - suc w.0) false

-- the flight of rank a must land before that of rank r and is not placed
abbrev pub is_missing_predecessor : OrderRules → PatternNode → ℕ → ℕ → Bool
is_missing_predecessor g w r a = g.before a r && not (is_placed_by_pattern g.most w a)

-- after r, the rank that no later place could take is placed
abbrev pub leaves_none_due : OrderRules → PatternNode → ℕ → Bool
leaves_none_due g w r = nat_le (suc w.0) g.most
    || (suc w.0 - g.most == r || is_placed_by_pattern g.most w (suc w.0 - g.most))

-- rank r may come next
unfoldable pub permits_next : OrderRules → PatternNode → ℕ → Bool
permits_next g w r =
    (((nat_le r (suc w.0 + g.most) && nat_le (suc w.0) (r + g.back r)) && not (is_placed_by_pattern g.most w r))
    && leaves_none_due g w r)
    && is_none (first_from (is_missing_predecessor g w r) 1 g.count)

-- ---- what is listed; a state has a node and pairs

module _ {S : Type 0} (node_of : S → PatternNode) (pairs_of : S → List Pair) where
  -- a state of this node lists the pair
  abbrev pub IsListed : List S → PatternNode → Pair → Type 0
  IsListed [] w q = ⊥
  IsListed (s ∷ ss) w q = ((node_of s ≡ w) × InPairs q (pairs_of s)) ⊎ IsListed ss w q

  -- the start lists (0, 0), and the states what they list
  abbrev pub IsListedOrStart : OrderRules → List S → PatternNode → Pair → Type 0
  IsListedOrStart g ss w q = ((w ≡ pattern_node g []) × (q ≡ (0, 0))) ⊎ IsListed ss w q

  -- this state has the node and lists a pair that is no later and no dearer
  abbrev pub covers_at : PatternNode → Pair → S → Bool
  covers_at w q s = is_eq (node_cmp (node_of s) w) && list_any (λ o. no_worse o q) (pairs_of s)

  -- some state of this node lists a pair that is no later and no dearer
  unfoldable pub covers : List S → PatternNode → Pair → Bool
  covers ss w q = list_any (covers_at w q) ss

  -- a pair, if there is one, that no state covers
  abbrev pub is_not_covered : List S → PatternNode → Option Pair → Bool
  is_not_covered ss w None = false
  is_not_covered ss w (Some q) = not (covers ss w q)

  -- each state comes after the one before it
  abbrev pub InNodeOrder : List S → Type 0
  InNodeOrder [] = Unit {0}
  InNodeOrder (a ∷ []) = Unit {0}
  InNodeOrder (a ∷ b ∷ rest) = (is_lt (node_cmp (node_of a) (node_of b)) ≡ true) × InNodeOrder (b ∷ rest)

  module _ (g : OrderRules) (first : ℕ → ℕ → Option ℕ) (after : ℕ → ℕ → ℕ → ℕ) (cost : ℕ → ℕ → ℕ) (all : List S) where
    -- the successor pair of b by rank r is not covered
    abbrev pub is_missed : PatternNode → ℕ → Pair → Bool
    is_missed w r b = is_not_covered all (pattern_push g w r) (next_pair first after cost w.2 b r)

    -- rank r may come next, and some pair of the node has a successor by it that is not covered
    abbrev pub misses : PatternNode → List Pair → ℕ → Bool
    misses w pairs r = permits_next g w r && list_any (is_missed w r) pairs

    -- the first rank by which a node with these pairs has a successor pair that is not covered
    unfoldable pub first_missed : PatternNode → List Pair → Option ℕ
    first_missed w pairs = first_from (misses w pairs) 1 g.count

    -- the first state from number i on that has one, with that rank
    unfoldable pub missed_from : ℕ → List S → Option (ℕ × ℕ)
    missed_from i [] = None
    missed_from i (s ∷ ss) = option_or (with_number i (first_missed (node_of s) (pairs_of s))) (missed_from (i + 1) ss)

  -- ---- the states of the last stage

  -- a state of the last stage
  abbrev pub is_final : ℕ → S → Bool
  is_final n s = (node_of s).0 == n

  -- a state of the last stage lists a pair of a smaller value
  abbrev pub is_final_below : ℕ → (Pair → ℕ) → ℕ → S → Bool
  is_final_below n value v s = (node_of s).0 == n && list_any (λ q. nat_lt (value q) v) (pairs_of s)
