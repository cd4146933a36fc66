-- Landings in the order of their seconds, and what does not hang on their order.
use Rattle.std.proofs.Common.{◌≡◌, ◌≢◌, ℕ, ◌+◌, ◌<◌, ◌≤◌, inl, inr, List, [], ◌∷◌, get_or, map, filter, cond, Bool}
use Rattle.std.proofs.Common.{true, false, count_by, arith, refl, sym, ap}
use Rattle.std.specs.Prelude.{All, IsTrue, IsPermutation}
use Rattle.std.proofs.lemmas.Bool.{cases_Bool, cases_lt, lt-ltb, le-ltb}
use Rattle.std.proofs.lemmas.List.Sorted.{IsPermutation-refl, IsPermutation-cons, IsPermutation-trans}
use Rattle.std.proofs.lemmas.List.Sorted.{IsPermutation-swap, IsPermutation-map, All-permutation, sum_by-IsPermutation}
use Rattle.landing_rules.specs.declared.objective.Objective.{Objective}
use Rattle.landing_rules.specs.declared.objective.Objective.TheVariants.{Makespan, Delay}
use Rattle.landing_rules.specs.Flights.{Situation, Landing, horizon}
use Rattle.landing_rules.specs.Rules.{last_second, is_open, waits, rank_among, place, greatest, cost, ArePairSeparated}
use Rattle.landing_rules.specs.Rules.{IsPairInPrecedence, IsShiftKept, IsFrozenKept, KeepsShift, KeepsRules}
use Rattle.landing_rules.specs.Events.{insert_landing, in_landing_order}
use Rattle.landing_rules.specs.shared.Counting.{Member}
use Rattle.landing_rules.specs.shared.OneList.{one_list}
use Rattle.landing_joint.specs.shared.LandingsInOrder.{member_insert, order_member, order_permutes}
use Rattle.landing_joint.proofs.AuditLists.{Each}

-- ---- lists strictly rising by second

abbrev pub Strict : List Landing → Type 0
Strict fs = Each (λ f g. f.second < g.second) fs

pub strict_equal : (xs ys : List Landing) → Strict xs → Strict ys → ((z : Landing) → Member z xs → Member z ys)
    → ((z : Landing) → Member z ys → Member z xs) → xs ≡ ys
strict_equal xs ys d e f g = one_list _ (λ f g a b. omega arith) xs ys d e f g

-- ---- by landing order

-- landings of different seconds are strictly rising in their order
pub strict_insert : (f : Landing) (fs : List Landing) → Strict fs → ((g : Landing) → Member g fs → g.second ≢ f.second)
    → Strict (insert_landing f fs)
strict_insert f [] e ne = (λ y m. absurd m, tt)
strict_insert f (x ∷ fs) e ne = elim (cases_lt x.second f.second) [
  | inl lt ↦ rw (lt-ltb _ _ lt) (
    λ y m. elim (member_insert f y fs m) [ inl s ↦ rw s lt | inr k ↦ e.0 y k ],
    strict_insert f fs e.1 (λ g m. ne g (inr m)),
  )
  | inr le ↦ rw (le-ltb _ _ le) (
    let c =
        ne x (inl refl) in λ y m. elim m [ inl s ↦ rw s (omega arith) | inr k ↦ (omega (arith, e.0 y k)) ],
    e,
  )
]

pub strict_order : (fs : List Landing) → Each (λ f g. f.second ≢ g.second) fs → Strict (in_landing_order fs)
strict_order [] e = tt
strict_order (f ∷ fs) e = strict_insert f _ (strict_order fs e.1) (λ g m q. e.0 g (order_member g fs m) (sym q))

-- ---- the rules and the objective do not hang on the order of landings

pub filter_insert : (f : Landing) (fs : List Landing)
    → IsPermutation (filter waits (f ∷ fs)) (filter waits (insert_landing f fs))
filter_insert f [] = IsPermutation-refl (filter waits (f ∷ []))
filter_insert f (g ∷ fs) = go _ (filter_insert f fs)
  where
    by : (c d : Bool) → IsPermutation (cond c (f ∷ filter waits fs) (filter waits fs))
        (filter waits (insert_landing f fs))
        → IsPermutation (cond c (f ∷ cond d (g ∷ filter waits fs) (filter waits fs))
        (cond d (g ∷ filter waits fs) (filter waits fs)))
        (cond d (g ∷ filter waits (insert_landing f fs)) (filter waits (insert_landing f fs)))
    by true true h = IsPermutation-trans _ _ _ (IsPermutation-swap (f ∷ g ∷ filter _ fs)
        (g ∷ f ∷ filter _ fs) 0 1 (omega arith) (omega arith) refl)
        (IsPermutation-cons g (f ∷ filter _ fs) (filter _ (insert_landing f fs)) h)
    by c d h = grind (arith, IsPermutation-cons)

    go : (b : Bool) → IsPermutation (filter waits (f ∷ fs)) (filter waits (insert_landing f fs))
        → IsPermutation (filter waits (f ∷ g ∷ fs)) (filter waits (cond b (g ∷ insert_landing f fs) (f ∷ g ∷ fs)))
    go true h = by _ _ h
    go false h = IsPermutation-refl (filter waits (f ∷ g ∷ fs))

pub filter_order : (fs : List Landing) → IsPermutation (filter waits fs) (filter waits (in_landing_order fs))
filter_order [] = IsPermutation-refl []
filter_order (f ∷ fs) = IsPermutation-trans _ _ _
    (grind (arith, cases_Bool, IsPermutation-cons, filter_order fs)) (filter_insert f _)

-- how many pass a test doesn't hang on the order
pub count-moved : {X : Type 0} (p : X → Bool) (xs ys : List X) → IsPermutation xs ys → count_by p xs ≡ count_by p ys
count-moved p xs ys h = sym (sum_by-IsPermutation _ xs ys h)

pub place-moved : (xs ys : List Landing) → IsPermutation xs ys → (f : Landing) → place xs f ≡ place ys f
place-moved xs ys h f = ap (λ n. 1 + n) (count-moved _ xs ys h)

pub rank-moved : (xs ys : List Landing) → IsPermutation xs ys → (f : Landing) → rank_among xs f ≡ rank_among ys f
rank-moved xs ys h f = grind (arith, count-moved, IsPermutation-map)

pub shift-moved : (k : ℕ) (xs ys : List Landing) → IsPermutation xs ys → KeepsShift k xs → KeepsShift k ys
shift-moved k xs ys h a = All-permutation (IsShiftKept k ys) xs ys h (λ i d lt.
    let f = get_or xs i d in
    let kept = a i d lt in
    let p = place-moved xs ys h f in
    let r = rank-moved xs ys h f in
    (omega (arith, kept.0, p, r), omega (arith, kept.1, p, r)))

pub pairs-moved : (R : Landing → Landing → Type 0) (xs ys : List Landing) → IsPermutation xs ys
    → All (λ f. All (R f) xs) xs → All (λ f. All (R f) ys) ys
pairs-moved R xs ys h a =
    All-permutation (λ f. All (R f) ys) xs ys h (λ k d lt. All-permutation (R (get_or xs k d)) xs ys h (a k d lt))

pub rules-moved : (s : Situation) (xs ys : List Landing) → IsPermutation xs ys
    → IsPermutation (filter waits xs) (filter waits ys) → KeepsRules s xs → KeepsRules s ys
rules-moved s xs ys h w r = record {
  in_days = All-permutation (λ f. f.second ≤ last_second) xs ys h r.in_days;
  open_seconds = All-permutation (λ f. IsTrue (is_open f.flight.windows s.closures f.second)) xs ys h r.open_seconds;
  separated = pairs-moved (ArePairSeparated s.aerodrome.table) xs ys h r.separated;
  in_precedence = pairs-moved IsPairInPrecedence xs ys h r.in_precedence;
  shift = shift-moved s.aerodrome.k (filter waits xs) (filter waits ys) w r.shift;
  frozen_kept = All-permutation (IsFrozenKept (horizon s)) xs ys h r.frozen_kept;
}

pub greatest_insert : (f : Landing) (fs : List Landing)
    → greatest (map (λ (g : Landing). g.second) (insert_landing f fs)) ≡ greatest
    (map (λ (g : Landing). g.second) (f ∷ fs))
greatest_insert f [] = refl
greatest_insert f (x ∷ fs) = grind (arith, cases_Bool, greatest_insert f fs)

pub cost_order : (o : Objective) (fs : List Landing) → cost o (in_landing_order fs) ≡ cost o fs
cost_order Makespan [] = refl
cost_order Makespan (f ∷ fs) = search (greatest_insert, cost_order Makespan fs)
cost_order Delay fs = sum_by-IsPermutation _ fs _ (order_permutes fs)
