-- Ascending arrivals: what a binary search finds in them, and what one more and one less leave.
use Rattle.std.proofs.Common.{rules, ◌≡◌, ℕ, zero, suc, ◌+◌, ◌<◌, ◌≤◌, Bool, true, false, cond, List, []}
use Rattle.std.proofs.Common.{◌∷◌, length, get_or, refl, ap, subst, ◌∙◌, arith}
use Rattle.std.proofs.lemmas.Grind.{common_steps}
use Rattle.std.specs.Prelude.{Contains, count_by}
use Rattle.std.specs.declared.cmp.Ordering.{Ordering}
use Rattle.std.specs.declared.cmp.Ordering.TheVariants.{Less, Equal, Greater}
use Rattle.std.specs.Ordering.{is_lt, is_eq, ordering_reverse, ordering_index}
use Rattle.std.specs.List.{AllByRecursion, insert, remove, AllWithin}
use Rattle.std.specs.List.Sorted.{IsStrictlySortedBy, IsNonDecreasingBy}
use Rattle.std.proofs.lemmas.Bool.{cases_order}
use Rattle.std.proofs.lemmas.Cmp.{tied_itself}
use Rattle.std.proofs.lemmas.Map.Keys.{Less-from_sorted}
use Rattle.std.proofs.lemmas.List.Sorted.{searchable_from_sorted}
use Rattle.landing_rules.specs.Rules.{first_come_cmp}
use Rattle.landing_rules.specs.shared.Counting.{flipped}
use Rattle.landing_rules.specs.shared.Ranks.{first_come_total, first_come_level}
use Rattle.fcfs_order.specs.Order.{with_arrival, without}

abbrev Arrival : Type 0
Arrival = ℕ × List ℕ

pub itself : (a : Arrival) → first_come_cmp a a ≡ Equal
itself a = tied_itself first_come_total a

-- what a binary search asks
pub searchable : (xs : List Arrival) (p : Arrival) → IsStrictlySortedBy first_come_cmp xs
    → IsNonDecreasingBy (λ y. ordering_index (first_come_cmp y p)) xs
searchable xs p s = searchable_from_sorted first_come_total (λ (y : Arrival). y) xs p (λ k d a b.
    ap is_lt (first_come_total.antisymm (get_or xs (k + 1) d) (get_or xs k d)
    ∙ ap ordering_reverse (Less-from_sorted first_come_cmp xs k (k + 1) d s (omega arith) b)))

-- ---- one more

pub with_at : (p : Arrival) (xs : List Arrival) (i : ℕ) → i ≤ length xs
    → AllWithin (λ y. first_come_cmp y p ≡ Less) xs 0 i → AllWithin (λ y. first_come_cmp y p ≡ Greater) xs i (length xs)
    → with_arrival p xs ≡ insert xs i p
with_at p [] zero le low high = refl
with_at p [] (suc i) le low high = absurd (omega arith)
with_at p (x ∷ xs) zero le low high =
    ap (λ b. cond b (x ∷ with_arrival p xs) (p ∷ x ∷ xs)) (ap is_lt (high 0 p (omega arith) (omega arith)))
with_at p (x ∷ xs) (suc i) le low high =
    ap (λ b. cond b (x ∷ with_arrival p xs) (p ∷ x ∷ xs)) (ap is_lt (low 0 p (omega arith) (omega arith)))
    ∙ ap (λ l. x ∷ l) (with_at p xs i (omega arith) (λ k d a b. low (suc k) d (omega arith) (omega arith))
    (λ k d a b. high (suc k) d (omega arith) (omega arith)))

all_with : (a p : Arrival) (xs : List Arrival) → first_come_cmp a p ≡ Less
    → AllByRecursion (λ y. first_come_cmp a y ≡ Less) xs
    → AllByRecursion (λ y. first_come_cmp a y ≡ Less) (with_arrival p xs)
all_with a p [] l h = (l, tt)
all_with a p (x ∷ xs) l h = grind (arith, all_with a p xs l h.1)

all_behind : (p x : Arrival) (xs : List Arrival) → first_come_cmp p x ≡ Less
    → AllByRecursion (λ y. first_come_cmp x y ≡ Less) xs → AllByRecursion (λ y. first_come_cmp p y ≡ Less) xs
all_behind p x [] l h = tt
all_behind p x (y ∷ ys) l h = (first_come_total.trans p x y l h.0, all_behind p x ys l h.1)

pub ascending_with : (p : Arrival) (xs : List Arrival) → (Contains xs p → ⊥) → IsStrictlySortedBy first_come_cmp xs
    → IsStrictlySortedBy first_come_cmp (with_arrival p xs)
unfolding IsStrictlySortedBy
ascending_with p [] absent s = (tt, tt)
ascending_with p (x ∷ xs) absent s =
    go (first_come_cmp x p) refl (ascending_with p xs (λ c. absent (suc c.0, (let l = c.1 in omega arith), c.2)) s.1)
  where
    go : (r : Ordering) → first_come_cmp x p ≡ r → IsStrictlySortedBy first_come_cmp (with_arrival p xs)
        → IsStrictlySortedBy first_come_cmp (cond (is_lt r) (x ∷ with_arrival p xs) (p ∷ x ∷ xs))
    go r e ih = search (rules, all_with, first_come_level, flipped, first_come_total, all_behind)

-- ---- one less

pub without_at : (p : Arrival) (xs : List Arrival) (i : ℕ) → IsStrictlySortedBy first_come_cmp xs
    → i < length xs → get_or xs i p ≡ p → without p xs ≡ remove xs i
unfolding IsStrictlySortedBy
without_at p [] i s lt e = absurd (omega arith)
without_at p (x ∷ xs) zero s lt e = grind (arith, itself)
without_at p (x ∷ xs) (suc i) s lt e =
    let l : first_come_cmp x p ≡ Less = subst (λ (y : Arrival). first_come_cmp x y ≡ Less) e
    (Less-from_sorted first_come_cmp (x ∷ xs) 0 (suc i) p s (omega arith) lt) in
    ap (λ b. cond b xs (x ∷ without p xs)) (ap is_eq l) ∙ ap (λ l. x ∷ l) (without_at p xs i s.1 (omega arith) e)

pub without_none : (p : Arrival) (xs : List Arrival) → (Contains xs p → ⊥) → without p xs ≡ xs
without_none p [] absent = refl
without_none p (x ∷ xs) absent =
    go (first_come_cmp x p) refl (without_none p xs (λ c. absent (suc c.0, (let l = c.1 in omega arith), c.2)))
  where
    go : (r : Ordering) → first_come_cmp x p ≡ r → without p xs ≡ xs → cond (is_eq r) xs (x ∷ without p xs) ≡ x ∷ xs
    go r e ih = grind (arith, first_come_level)

all_without : (a p : Arrival) (xs : List Arrival) → AllByRecursion (λ y. first_come_cmp a y ≡ Less) xs
    → AllByRecursion (λ y. first_come_cmp a y ≡ Less) (without p xs)
all_without a p [] h = tt
all_without a p (x ∷ xs) h = grind (arith, all_without a p xs h.1)

pub ascending_without : (p : Arrival) (xs : List Arrival) → IsStrictlySortedBy first_come_cmp xs
    → IsStrictlySortedBy first_come_cmp (without p xs)
unfolding IsStrictlySortedBy
ascending_without p [] s = tt
ascending_without p (x ∷ xs) s = go (is_eq (first_come_cmp x p)) (ascending_without p xs s.1)
  where
    go : (b : Bool) → IsStrictlySortedBy first_come_cmp (without p xs)
        → IsStrictlySortedBy first_come_cmp (cond b xs (x ∷ without p xs))
    go true ih = s.1
    go false ih = (all_without x p xs s.0, ih)

pub short_without : (p : Arrival) (xs : List Arrival) → length (without p xs) ≤ length xs
short_without p [] = omega arith
short_without p (x ∷ xs) = grind (arith, short_without p xs)

pub long_with : (p : Arrival) (xs : List Arrival) → length (with_arrival p xs) ≡ length xs + 1
long_with p [] = refl
long_with p (x ∷ xs) = grind (arith, long_with p xs)

-- ---- ranks

count_less : (p x : Arrival) (xs : List Arrival) → first_come_cmp x p ≡ Less
    → count_by (λ a. is_lt (first_come_cmp a p)) (x ∷ xs) ≡ suc (count_by (λ a. is_lt (first_come_cmp a p)) xs)
count_less p x xs e = grind (arith, common_steps)

count_other : (p x : Arrival) (xs : List Arrival) (r : Ordering) → is_lt r ≡ false → first_come_cmp x p ≡ r
    → count_by (λ a. is_lt (first_come_cmp a p)) (x ∷ xs) ≡ count_by (λ a. is_lt (first_come_cmp a p)) xs
count_other p x xs r f e = grind arith

-- none of those behind one comes before it
none_before : (p : Arrival) (xs : List Arrival) → AllByRecursion (λ y. first_come_cmp p y ≡ Less) xs
    → count_by (λ a. is_lt (first_come_cmp a p)) xs ≡ 0
none_before p [] h = refl
none_before p (x ∷ xs) h = count_other p x xs Greater refl (first_come_total.antisymm x p ∙ ap ordering_reverse h.0)
    ∙ none_before p xs h.1

-- as many come before one as stand before it
pub counted_at : (p : Arrival) (xs : List Arrival) (i : ℕ) → IsStrictlySortedBy first_come_cmp xs
    → i < length xs → get_or xs i p ≡ p → count_by (λ a. is_lt (first_come_cmp a p)) xs ≡ i
unfolding IsStrictlySortedBy
counted_at p [] i s lt e = absurd (omega arith)
counted_at p (x ∷ xs) zero s lt e =
    count_other p x xs Equal refl (subst (λ (y : Arrival). first_come_cmp x y ≡ Equal) e (itself x))
    ∙ none_before p xs (subst (λ (y : Arrival). AllByRecursion (λ z. first_come_cmp y z ≡ Less) xs) e s.0)
counted_at p (x ∷ xs) (suc i) s lt e =
    count_less p x xs (subst (λ (y : Arrival). first_come_cmp x y ≡ Less) e
    (Less-from_sorted first_come_cmp (x ∷ xs) 0 (suc i) p s (omega arith) lt))
    ∙ ap suc (counted_at p xs i s.1 (omega arith) e)

-- ---- what a search says

pub found : (p : Arrival) (xs : List Arrival) (i : ℕ) → i < length xs → first_come_cmp (get_or xs i p) p ≡ Equal
    → get_or xs i p ≡ p
found p xs i lt e = first_come_level (get_or xs i p) p e

pub parted : (p : Arrival) (xs : List Arrival) (i : ℕ) → AllWithin (λ y. first_come_cmp y p ≡ Less) xs 0 i
    → AllWithin (λ y. first_come_cmp y p ≡ Greater) xs i (length xs) → Contains xs p → ⊥
parted p xs i low high c = grind (arith, cases_order, itself)
