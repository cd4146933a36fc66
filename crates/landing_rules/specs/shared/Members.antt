-- What is in a list: in one that is filtered, mapped or grown, and what a search in it finds.
use Rattle.std.proofs.Common.{◌≡◌, ℕ, suc, ◌<◌, ◌≤◌, ◌⊎◌, inl, inr, Bool, true, false, List, [], ◌∷◌, ◌++◌}
use Rattle.std.proofs.Common.{length, get_or, map, filter, Option, Some, None, refl, sym, arith}
use Rattle.std.specs.Prelude.{All, Contains, option_map, filter_map, find}
use Rattle.std.specs.List.{list_any}
use Rattle.std.specs.List.Sorted.{IsPermutation}
use Rattle.std.proofs.lemmas.Bool.{cases_Bool, or_parts}
use Rattle.std.proofs.lemmas.List.Elements.{All-nil, All-cons, All-head, All-tail}
use Rattle.std.proofs.lemmas.List.Sorted.{Contains-permutation}
use Rattle.landing_rules.specs.Flights.{Active, Landing, landing}
use Rattle.landing_rules.specs.shared.Counting.{Member}

pub cases_option : {X : Type 0} (o : Option X) → (o ≡ None) ⊎ ((x : X) × (o ≡ Some x))
cases_option None = inl refl
cases_option (Some x) = inr (x, refl)

-- ---- members and places

pub member_at : {X : Type 0} (xs : List X) (i : ℕ) (d : X) → i < length xs → Member (get_or xs i d) xs
member_at [] i d l = grind arith
member_at (x ∷ xs) i d l = grind (arith, member_at xs)

pub contains_member : {X : Type 0} (xs : List X) (x : X) → Contains xs x → Member x xs
contains_member xs x c = rw c.2 at (member_at xs c.0 x c.1)

pub member_contains : {X : Type 0} (xs : List X) (x : X) → Member x xs → Contains xs x
member_contains [] x m = absurd m
member_contains (y ∷ ys) x (inl e) = (0, omega arith, sym e)
member_contains (y ∷ ys) x (inr m) = let c = member_contains ys x m in (suc c.0, (omega arith), c.2)

pub member_permutation : {X : Type 0} (xs ys : List X) (x : X) → IsPermutation xs ys → Member x xs → Member x ys
member_permutation xs ys x p m = contains_member ys x (Contains-permutation xs ys x p (member_contains xs x m))

pub all_at : {X : Type 0} (P : X → Type 0) (xs : List X) → All P xs → (x : X) → Member x xs → P x
all_at P [] all x m = absurd m
all_at P (y ∷ ys) all x (inl e) = rw e (All-head P y ys all)
all_at P (y ∷ ys) all x (inr m) = all_at P ys (All-tail P y ys all) x m

pub all_from : {X : Type 0} (P : X → Type 0) (xs : List X) → ((x : X) → Member x xs → P x) → All P xs
all_from P [] h = All-nil P
all_from P (x ∷ xs) h = All-cons P x xs (h x (inl refl)) (all_from P xs (λ y m. h y (inr m)))

-- ---- a filtered list

pub in_filter : {X : Type 0} (p : X → Bool) (xs : List X) (x : X) → Member x (filter p xs) → Member x xs × (p x ≡ true)
in_filter p [] x m = absurd m
in_filter p (y ∷ ys) x m = grind (arith, cases_Bool, in_filter p ys)

pub filter_in : {X : Type 0} (p : X → Bool) (xs : List X) (x : X) → Member x xs → p x ≡ true → Member x (filter p xs)
filter_in p [] x m e = m
filter_in p (y ∷ ys) x m e = grind (arith, cases_Bool, filter_in p ys)

-- ---- a mapped list

pub in_map : {X Y : Type 0} (f : X → Y) (xs : List X) (y : Y) → Member y (map f xs) → (x : X) × Member x xs × (y ≡ f x)
in_map f [] y m = absurd m
in_map f (x ∷ xs) y (inl e) = (x, inl refl, e)
in_map f (x ∷ xs) y (inr m) = let r = in_map f xs y m in (r.0, inr r.1, r.2)

pub map_in : {X Y : Type 0} (f : X → Y) (xs : List X) (x : X) → Member x xs → Member (f x) (map f xs)
map_in f [] x m = m
map_in f (y ∷ ys) x m = grind (arith, map_in f ys)

-- ---- a list filtered and mapped at once

pub in_filter_map : {X Y : Type 0} (h : X → Option Y) (xs : List X) (y : Y) → Member y (filter_map h xs)
    → (x : X) × Member x xs × (h x ≡ Some y)
in_filter_map h [] y m = absurd m
in_filter_map {X = X} {Y = Y} h (x ∷ xs) y m = grind (arith, in_filter_map h xs y)

pub filter_map_in : {X Y : Type 0} (h : X → Option Y) (xs : List X) (x : X) (y : Y) → Member x xs
    → h x ≡ Some y → Member y (filter_map h xs)
filter_map_in h [] x y m e = absurd m
filter_map_in h (z ∷ zs) x y m e = grind (arith, cases_option, filter_map_in h zs)

-- the frozen landings of a list of flights
pub in_frozen : (xs : List Active) (f : Landing) → Member f (filter_map (λ a. option_map (landing a) a.frozen) xs)
    → (a : Active) × (t : ℕ) × Member a xs × (a.frozen ≡ Some t) × (f ≡ landing a t)
in_frozen xs f m = grind (arith, in_filter_map)

pub frozen_in : (xs : List Active) (a : Active) (t : ℕ) → Member a xs → a.frozen ≡ Some t
    → Member (landing a t) (filter_map (λ a. option_map (landing a) a.frozen) xs)
frozen_in xs a t m e = filter_map_in _ xs a _ m (cc)

-- ---- a grown list

pub append_in : {X : Type 0} (xs ys : List X) (x : X) → Member x xs → Member x (xs ++ ys)
append_in [] ys x m = absurd m
append_in (z ∷ xs) ys x m = grind (arith, append_in xs)

pub pushed_in : {X : Type 0} (xs : List X) (y x : X) → x ≡ y → Member x (xs ++ y ∷ [])
pushed_in [] y x e = inl e
pushed_in (z ∷ xs) y x e = inr (pushed_in xs y x e)

pub in_push : {X : Type 0} (xs : List X) (y x : X) → Member x (xs ++ y ∷ []) → Member x xs ⊎ (x ≡ y)
in_push [] y x h = grind arith
in_push (z ∷ xs) y x h = grind (arith, in_push xs)

-- ---- what a search finds

pub found_in : {X : Type 0} (p : X → Bool) (xs : List X) (x : X) → find p xs ≡ Some x → Member x xs × (p x ≡ true)
found_in p [] x e = absurd (cc)
found_in p (y ∷ ys) x e = grind (arith, cases_Bool, found_in p ys)

pub none_found : {X : Type 0} (p : X → Bool) (xs : List X) (x : X) → find p xs ≡ None → Member x xs → p x ≡ false
none_found p [] x e m = absurd m
none_found p (y ∷ ys) x e m = grind (arith, cases_Bool, none_found p ys)

pub none_any : {X : Type 0} (p : X → Bool) (xs : List X) (x : X) → list_any p xs ≡ false → Member x xs → p x ≡ false
none_any p [] x e m = absurd m
none_any p (y ∷ ys) x e m = grind (arith, or_parts, none_any p ys)

-- ---- how many pass

pub fewer_filtered : {X Y : Type 0} (p : Y → Bool) (q : X → Bool) (f : X → Y) (xs : List X)
    → ((x : X) → p (f x) ≡ true → q x ≡ true) → length (filter p (map f xs)) ≤ length (filter q xs)
fewer_filtered p q f [] h = omega arith
fewer_filtered p q f (x ∷ xs) h = grind (arith, cases_Bool, fewer_filtered p q f xs)

pub fewer_twice : {X : Type 0} (p q : X → Bool) (xs : List X) → length (filter p (filter q xs)) ≤ length (filter p xs)
fewer_twice p q [] = omega arith
fewer_twice p q (x ∷ xs) = grind (arith, cases_Bool, fewer_twice p q xs)

pub fewer_kept : {X : Type 0} (q : X → Bool) (xs : List X) → length (filter q xs) ≤ length xs
fewer_kept q [] = omega arith
fewer_kept q (x ∷ xs) = grind (arith, cases_Bool, fewer_kept q xs)
