-- When lists of findings are empty.
use Rattle.std.proofs.Common.{arith}
use Rattle.std.proofs.Common.{◌≡◌, ◌⊎◌, inl, inr, List, [], ◌∷◌, ◌++◌, Bool, true, refl}
use Rattle.std.specs.Prelude.{flat_map}
use Rattle.std.specs.Str.{bytes_eq}
use Rattle.std.specs.List.{list_any}
use Rattle.std.proofs.lemmas.Slice.Eq.{bytes_eq-Decides}
use Rattle.std.proofs.lemmas.Bool.{or_cases, or_left, or_right, false≢true, cases_Bool}
use Rattle.landing_rules.specs.Flights.{Callsign}
use Rattle.landing_rules.specs.shared.Counting.{Member}
-- a relation of each element with each later one
pub use Rattle.landing_rules.specs.shared.OneList.{AscendBy as Each}
use Rattle.landing_rules.specs.Audit.{Finding, for_failing, for_failing_pairs, or_else}

-- ---- findings

pub append_nil : (xs ys : List Finding) → xs ++ ys ≡ [] → (xs ≡ []) × (ys ≡ [])
append_nil [] ys e = (refl, e)
append_nil (x ∷ xs) ys e = cc

pub nil_append : (xs ys : List Finding) → xs ≡ [] → ys ≡ [] → xs ++ ys ≡ []
nil_append xs ys e f = cc

pub or_else_nil : (xs ys : List Finding) → or_else xs ys ≡ [] → (xs ≡ []) × (ys ≡ [])
or_else_nil xs ys e = grind arith

pub cons_nil : (x : Finding) (xs : List Finding) → ◌≡◌ {A = List Finding} (x ∷ xs) [] → ⊥
cons_nil x xs e = cc

pub broken_none : {X : Type 0} (holds : X → Bool) (f : X → Finding) (xs : List X) → for_failing holds f xs ≡ []
    → (x : X) → Member x xs → holds x ≡ true
broken_none holds f [] e x m = absurd m
broken_none holds f (y ∷ ys) e x m = grind (arith, cases_Bool, cons_nil, broken_none holds f ys)

pub none_broken : {X : Type 0} (holds : X → Bool) (f : X → Finding) (xs : List X)
    → ((x : X) → Member x xs → holds x ≡ true) → for_failing holds f xs ≡ []
none_broken holds f [] h = refl
none_broken holds f (y ∷ ys) h = grind (arith, none_broken holds f ys)

pub pairs_none : {X : Type 0} (holds : X → X → Bool) (f : X → X → Finding) (xs : List X)
    → for_failing_pairs holds f xs ≡ [] → Each (λ x y. holds x y ≡ true) xs
pairs_none holds f [] e = tt
pairs_none holds f (x ∷ xs) e = grind (arith, append_nil, broken_none, pairs_none holds f xs)

pub none_pairs : {X : Type 0} (holds : X → X → Bool) (f : X → X → Finding) (xs : List X)
    → Each (λ x y. holds x y ≡ true) xs → for_failing_pairs holds f xs ≡ []
none_pairs holds f [] e = refl
none_pairs holds f (x ∷ xs) e = nil_append _ _ (none_broken _ _ xs e.0) (none_pairs _ f xs e.1)

pub each_pair : {X : Type 0} (R : X → X → Type 0) (xs : List X) → Each R xs → (x y : X) → Member x xs
    → Member y xs → (x ≡ y) ⊎ (R x y ⊎ R y x)
each_pair R [] e x y i j = grind arith
each_pair R (z ∷ zs) e x y i j = grind (arith, each_pair R zs)

pub flat_nil : {X : Type 0} (F : X → List Finding) (xs : List X) → flat_map F xs ≡ [] → (x : X) → Member x xs → F x ≡ []
flat_nil F [] e x m = absurd m
flat_nil F (y ∷ ys) e x m = grind (arith, append_nil, flat_nil F ys)

pub nil_flat : {X : Type 0} (F : X → List Finding) (xs : List X) → ((x : X) → Member x xs → F x ≡ [])
    → flat_map F xs ≡ []
nil_flat F [] h = refl
nil_flat F (y ∷ ys) h = nil_append _ _ (h y (inl refl)) (nil_flat F ys (λ x m. h x (inr m)))

pub any_member : (c : Callsign) (ds : List Callsign) → list_any (λ d. bytes_eq d c) ds ≡ true → Member c ds
any_member c [] e = absurd (false≢true e)
any_member c (d ∷ ds) e = grind (arith, or_cases, bytes_eq-Decides, any_member c ds)

pub member_any : (c : Callsign) (ds : List Callsign) → Member c ds → list_any (λ d. bytes_eq d c) ds ≡ true
member_any c [] m = absurd m
member_any c (d ∷ ds) m = grind (arith, or_left, bytes_eq-Decides, or_right, member_any c ds)
