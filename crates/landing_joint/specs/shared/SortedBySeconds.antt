-- Numbers sorted by their seconds: the same numbers, each landing before those behind it.
use Rattle.std.proofs.Common.{◌≡◌, ◌≢◌, ℕ, ◌<◌, ◌⊎◌, inl, inr, List, [], ◌∷◌, map, filter, Bool, arith, refl, ap₂}
use Rattle.std.proofs.lemmas.Bool.{cases_Bool, cases_lt, lt-ltb, le-ltb}
use Rattle.landing_rules.specs.FirstBest.{insert_by, sorted_by}
use Rattle.cps_theory.specs.RankLists.{In, Distinct}
use Rattle.cps_theory.specs.FirstBest.{Ascends}
use Rattle.landing_rules.specs.shared.Members.{member_permutation, in_map}
use Rattle.landing_joint.specs.shared.Insertion.{insert_moves, sort_moves}
use Rattle.std.specs.Prelude.{IsPermutation}
use Rattle.std.proofs.lemmas.List.Sorted.{IsPermutation-sym}
use Rattle.cps_theory.specs.laws.Members.{in_filter}

in_inserted : (t : ℕ → ℕ) (r x : ℕ) (rs : List ℕ) → In x (insert_by t r rs) → (x ≡ r) ⊎ In x rs
in_inserted t r x rs = member_permutation _ _ x (IsPermutation-sym (r ∷ rs) (insert_by t r rs) (insert_moves _
    (insert_by t) (λ y. refl) (λ y z zs. refl) r rs))

sorted_by_moves : (t : ℕ → ℕ) (rs : List ℕ) → IsPermutation rs (sorted_by t rs)
sorted_by_moves t = sort_moves _ (insert_by t) (λ y. refl) (λ y z zs. refl) _ refl (λ y ys. refl)

-- sorting keeps the members
pub in_sorted_by : (t : ℕ → ℕ) (x : ℕ) (rs : List ℕ) → In x (sorted_by t rs) → In x rs
in_sorted_by t x rs = member_permutation _ rs x (IsPermutation-sym rs (sorted_by t rs) (sorted_by_moves t rs))

pub sorted_by_in : (t : ℕ → ℕ) (x : ℕ) (rs : List ℕ) → In x rs → In x (sorted_by t rs)
sorted_by_in t x rs = member_permutation rs _ x (sorted_by_moves t rs)

ascends_inserted : (t : ℕ → ℕ) (r : ℕ) (rs : List ℕ) → Ascends t rs → ((q : ℕ) → In q rs → t q ≢ t r)
    → Ascends t (insert_by t r rs)
ascends_inserted t r [] a ne = (λ y i. absurd i, tt)
ascends_inserted t r (q ∷ rs) a ne = grind (arith, cases_lt, lt-ltb, in_inserted, le-ltb, ascends_inserted t r rs)

-- where no two land at one second, each lands before those behind it
pub sorted_by_ascends : (t : ℕ → ℕ) (rs : List ℕ) → Distinct rs → ((q r : ℕ) → In q rs → In r rs → q ≢ r → t q ≢ t r)
    → Ascends t (sorted_by t rs)
sorted_by_ascends t [] d ne = tt
sorted_by_ascends t (r ∷ rs) d ne =
    ascends_inserted t r _ (sorted_by_ascends t rs d.1 (λ q x i j. ne q x (inr i) (inr j)))
    (λ q i. let k = in_sorted_by t q rs i in ne q r (inr k) (inl refl) (λ e. d.0 (rw e at k)))

-- some of an ascending list ascend
pub filter_ascends : (t : ℕ → ℕ) (p : ℕ → Bool) (rs : List ℕ) → Ascends t rs → Ascends t (filter p rs)
filter_ascends t p [] a = tt
filter_ascends t p (r ∷ rs) a = grind (arith, cases_Bool, in_filter, filter_ascends t p rs)

-- other names with the same seconds ascend too
pub map_ascends : (t u : ℕ → ℕ) (f : ℕ → ℕ) (rs : List ℕ) → ((x : ℕ) → In x rs → u (f x) ≡ t x)
    → Ascends t rs → Ascends u (map f rs)
map_ascends t u f [] h a = tt
map_ascends t u f (r ∷ rs) h a = (
  λ y i. let w = in_map f rs y i in grind arith,
  map_ascends t u f rs (λ x i. h x (inr i)) a.1,
)

-- two maps that ascend along one list land its members in the same order
pub ascends_same : (t u : ℕ → ℕ) (rs : List ℕ) → Ascends t rs → Ascends u rs → (f g : ℕ) → In f rs
    → In g rs → t f < t g → u f < u g
ascends_same t u [] d e f g i j lt = grind arith
ascends_same t u (x ∷ rs) d e f g i j lt = grind (arith, ascends_same t u rs)

-- a list is told by its image where no two of it have one image
pub map_one : (f : ℕ → ℕ) (xs ys : List ℕ) → ((x y : ℕ) → In x xs → In y ys → f x ≡ f y → x ≡ y)
    → map f xs ≡ map f ys → xs ≡ ys
map_one f [] [] h e = refl
map_one f [] (y ∷ ys) h e = cc
map_one f (x ∷ xs) [] h e = cc
map_one f (x ∷ xs) (y ∷ ys) h e =
    let head : f x ≡ f y = cc in
    let rest : map f xs ≡ map f ys = cc in
    ap₂ (λ z l. z ∷ l) (h x y (inl refl) (inl refl) head) (map_one f xs ys (λ a b i j. h a b (inr i) (inr j)) rest)
