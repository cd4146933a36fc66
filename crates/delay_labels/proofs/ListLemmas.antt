-- Lists of pairs, and the successors of their pairs.
use Rattle.std.proofs.lemmas.Grind.{common_steps}
use Rattle.std.proofs.Common.{rules, ◌≡◌, ℕ, zero, suc, ◌+◌, ◌-◌, ◌<◌, ◌≤◌, ◌⊎◌, inl, inr, List, [], ◌∷◌, ◌++◌, length}
use Rattle.std.proofs.Common.{take, drop, Option, Some, None, refl, sym, ap, subst, ◌∙◌}
use Rattle.std.proofs.Common.{arith}
use Rattle.std.specs.Prelude.{slice_range}
use Rattle.std.specs.List.{flat_map}
use Rattle.std.proofs.lemmas.Bool.{cases_eq}
use Rattle.std.proofs.lemmas.List.{at_drop_more, length-take, length-drop, take_more, get_or-take, get_or-drop}
use Rattle.std.proofs.lemmas.List.{flat_map_more, length_push, get_or_push, get_or_append_left}
use Rattle.landing_rules.specs.Problem.{Problem}
use Rattle.cps_theory.specs.Labels.{InPairs, Pair}
use Rattle.cps_theory.specs.UndominatedPairs.{InPairOrder, sweep}
use Rattle.cps_network.specs.Pairs.{list_at, pair_at, successor}
use Rattle.delay_labels.specs.Lists.{some_before, successors, successors_in, IsGivenIn}
use Rattle.cps_network.specs.shared.PairLists.{in_append, in_left, in_right}

-- ---- successors

some_in : (o : Option Pair) (qs : List Pair) (q : Pair) → InPairs q (some_before o qs) → (o ≡ Some q) ⊎ InPairs q qs
some_in o qs q i = grind (arith, common_steps)

in_some : (o : Option Pair) (qs : List Pair) (q : Pair) → (o ≡ Some q) ⊎ InPairs q qs → InPairs q (some_before o qs)
in_some o qs q given = grind (arith, common_steps)

-- each is the successor of one of the pairs
pub given_by : (p : Problem) (last rank : ℕ) (pairs : List Pair) (q : Pair) → InPairs q (successors p last rank pairs)
    → (o : Pair) × InPairs o pairs × (successor p last o rank ≡ Some q)
given_by p last rank [] q i = absurd i
given_by p last rank (x ∷ pairs) q i = elim (some_in (successor p last x rank) (successors p last rank pairs) q i) [
  | inl e ↦ (x, inl refl, e)
  | inr j ↦ grind (arith, given_by p last rank pairs q j)
]

pub gives_in : (p : Problem) (last rank : ℕ) (pairs : List Pair) (o q : Pair) → InPairs o pairs
    → successor p last o rank ≡ Some q → InPairs q (successors p last rank pairs)
gives_in p last rank [] o q i e = absurd i
gives_in p last rank (x ∷ pairs) o q (inl s) e = grind (arith, in_some)
gives_in p last rank (x ∷ pairs) o q (inr i) e = grind (arith, in_some, gives_in p last rank pairs o q i e)

-- and of lists
flat_in : (f : List Pair → List Pair) (lists : List (List Pair)) (q : Pair) → InPairs q (flat_map f lists)
    → (i : ℕ) × (i < length lists) × InPairs q (f (list_at lists i))
flat_in f [] q i = absurd i
flat_in f (l ∷ lists) q i = elim (in_append q (f l) (flat_map f lists) i) [
  | inl a ↦ (0, omega arith, a)
  | inr b ↦ (let r = flat_in f lists q b in (suc r.0, (let lt = r.1 in omega arith), r.2))
]

in_flat : (f : List Pair → List Pair) (lists : List (List Pair)) (i : ℕ) (q : Pair) → i < length lists
    → InPairs q (f (list_at lists i)) → InPairs q (flat_map f lists)
in_flat f [] i q lt h = absurd (omega arith)
in_flat f (l ∷ lists) zero q lt h = in_left q (f l) (flat_map f lists) h
in_flat f (l ∷ lists) (suc i) q lt h = in_right q (f l) (flat_map f lists) (in_flat f lists i q (omega arith) h)

range_at : (lists : List (List Pair)) (from to i : ℕ) → i < length (slice_range lists from to)
    → (from + i < to) × (list_at (slice_range lists from to) i ≡ list_at lists (from + i))
range_at lists from to i lt = grind (arith, length-take, get_or-take, get_or-drop)

pub given_in_range : (p : Problem) (last rank : ℕ) (lists : List (List Pair)) (from to : ℕ) (q : Pair)
    → InPairs q (successors_in p last rank lists from to) → IsGivenIn p last rank lists from to q
given_in_range p last rank lists from to q i = search (rules, flat_in, slice_range, range_at, given_by)

pub range_gives : (p : Problem) (last rank : ℕ) (lists : List (List Pair)) (from to : ℕ) (q : Pair)
    → to ≤ length lists → IsGivenIn p last rank lists from to q → InPairs q (successors_in p last rank lists from to)
range_gives p last rank lists from to q within g =
    let place = g.0 in
    let low = g.1 in
    let high = g.2 in
    let a = length-take (to - from) (drop from lists) in
    let b = length-drop from lists in
    let lt : g.0 - from < length (slice_range lists from to) = omega (arith, a, b, low, high, within) in
    let r = range_at lists from to (g.0 - from) lt in
    let n : from + (g.0 - from) ≡ g.0 = omega (arith, low) in
    let e : list_at (slice_range lists from to) (g.0 - from) ≡ list_at lists g.0 = r.1 ∙ ap (list_at lists) n in
    in_flat (successors p last rank) (slice_range lists from to) (g.0 - from) q lt
    (gives_in p last rank (list_at (slice_range lists from to) (g.0 - from)) g.3 q
    (subst (InPairs g.3) (sym e) g.4) g.5)

-- ---- one pair more of a list

pub one_more : (p : Problem) (last rank : ℕ) (pairs into more whole : List Pair) (i : ℕ) (q : Pair)
    → i < length pairs → successor p last (pair_at pairs i) rank ≡ Some q → more ≡ into ++ q ∷ [] →
    into ++ successors p last rank (drop i pairs) ≡ whole → more ++ successors p last rank (drop (i + 1) pairs) ≡ whole
one_more p last rank pairs into more whole i q lt lands put is = grind (arith, common_steps)

pub none_more : (p : Problem) (last rank : ℕ) (pairs into more whole : List Pair) (i : ℕ)
    → i < length pairs → successor p last (pair_at pairs i) rank ≡ None → more ≡ into →
    into ++ successors p last rank (drop i pairs) ≡ whole → more ++ successors p last rank (drop (i + 1) pairs) ≡ whole
none_more p last rank pairs into more whole i lt lands same is = grind (arith, common_steps)

pub sweep_more : (pairs into more whole : List Pair) (i least : ℕ) → i < length pairs → (pair_at pairs i).1 < least
    → more ≡ into ++ pair_at pairs i ∷ []
    → into ++ sweep least (drop i pairs) ≡ whole → more ++ sweep (pair_at pairs i).1 (drop (i + 1) pairs) ≡ whole
sweep_more pairs into more whole i least lt cheaper put is = grind (arith, common_steps)

pub sweep_past : (pairs into whole : List Pair) (i least : ℕ) → i < length pairs → least ≤ (pair_at pairs i).1
    → into ++ sweep least (drop i pairs) ≡ whole → into ++ sweep least (drop (i + 1) pairs) ≡ whole
sweep_past pairs into whole i least lt dear is = grind (arith, common_steps)

-- ---- one list more of a range

pub range_more : (p : Problem) (last rank : ℕ) (into more : List Pair) (lists : List (List Pair)) (from i : ℕ)
    → from ≤ i → i < length lists → into ≡ successors_in p last rank lists from i
    → more ≡ into ++ successors p last rank (list_at lists i) → more ≡ successors_in p last rank lists from (i + 1)
range_more p last rank into more lists from i low lt is e =
    let n : (i + 1) - from ≡ (i - from) + 1 = omega (arith, low) in
    let b = length-drop from lists in
    let t : take ((i + 1) - from) (drop from lists) ≡ take (i - from) (drop from lists) ++ list_at lists i ∷ [] =
    grind (arith, take_more, get_or-drop, from_more) in search (rules, flat_map_more)
  where
    from_more : (a b : ℕ) → a ≤ b → a + (b - a) ≡ b
    from_more a b le = omega (arith, le)

-- ---- one list more behind others

pub each_more : (P : ℕ → List Pair → Type 0) (lists more : List (List Pair)) (pairs : List Pair) (i : ℕ)
    → more ≡ lists ++ pairs ∷ [] → length lists ≡ i → ((m : ℕ) → m < i → P m (list_at lists m)) → P i pairs
    → (length more ≡ i + 1) × ((m : ℕ) → m < i + 1 → P m (list_at more m))
each_more P lists more pairs i e long old one = grind (arith, length_push, cases_eq, get_or_push, get_or_append_left)

-- ---- pairs in order

-- a pair before others in order, the first of which it may precede
pub order_more : (a b : Pair) (ps : List Pair) → (a.0 < b.0) ⊎ ((a.0 ≡ b.0) × (a.1 ≤ b.1))
    → InPairOrder (b ∷ ps) → InPairOrder (a ∷ b ∷ ps)
order_more a b ps low up = grind (arith, common_steps)

-- the same before what is left of a list
pub order_at : (a : Pair) (pairs : List Pair) (i : ℕ) → i < length pairs → (a.0 < (pair_at pairs i).0)
    ⊎ ((a.0 ≡ (pair_at pairs i).0) × (a.1 ≤ (pair_at pairs i).1))
    → InPairOrder (pair_at pairs i ∷ drop (i + 1) pairs) → InPairOrder (a ∷ drop i pairs)
order_at a pairs i lt low up =
    subst (λ (l : List Pair). InPairOrder (a ∷ l)) (sym (at_drop_more (λ (l : List Pair). l) pairs i (0, 0) lt))
    (order_more a (pair_at pairs i) (drop (i + 1) pairs) low up)
