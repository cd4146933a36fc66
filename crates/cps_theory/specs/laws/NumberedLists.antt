-- Lists made from the numbers from i on: what holds in them, counts in them, and is filtered from them.
use Rattle.std.proofs.lemmas.Grind.{common_steps}
use Rattle.std.proofs.Common.{◌≡◌, ℕ, zero, suc, ◌+◌, ◌<◌, ◌≤◌, inl, inr, Bool, List, [], ◌∷◌, map}
use Rattle.std.proofs.Common.{filter, count_by, refl, sym, ap, ◌∙◌, arith}
use Rattle.std.specs.Prelude.{All}
use Rattle.std.proofs.lemmas.Bool.{cases_eq}
use Rattle.std.proofs.lemmas.List.Sums.{sum_by-cons}
use Rattle.cps_theory.specs.RankLists.{Distinct, In, numbers_from}
use Rattle.cps_theory.specs.laws.RankCounts.{count_agree, count, count_is}

pub in_numbers : (i n x : ℕ) → In x (numbers_from i n) → (i ≤ x) × (x < i + n)
in_numbers i zero x m = absurd m
in_numbers i (suc n) x (inl e) = omega arith
in_numbers i (suc n) x (inr m) = let a = in_numbers _ n x m in (omega (arith, a.0), omega (arith, a.1))

pub numbers_in : (i n x : ℕ) → i ≤ x → x < i + n → In x (numbers_from i n)
numbers_in i zero x le lt = absurd (omega arith)
numbers_in i (suc n) x le lt =
    elim (cases_eq x i) [ inl e ↦ inl e | inr ne ↦ inr (numbers_in _ n x (omega arith) (omega arith)) ]

pub distinct_numbers : (i n : ℕ) → Distinct (numbers_from i n)
distinct_numbers i zero = tt
distinct_numbers i (suc n) = (λ m. omega (arith, (in_numbers _ n i m).0), distinct_numbers _ n)

pub map_numbers : {X : Type 0} (f : ℕ → X) (i n : ℕ)
    → map f (numbers_from (suc i) n) ≡ map (λ j. f (suc j)) (numbers_from i n)
map_numbers f i zero = refl
map_numbers f i (suc n) = ap (λ l. f (suc i) ∷ l) (map_numbers f _ n)

pub filter_map_is : {X : Type 0} (p : X → Bool) (f : ℕ → X) (xs : List ℕ)
    → filter p (map f xs) ≡ map f (filter (λ i. p (f i)) xs)
filter_map_is p f [] = refl
filter_map_is p f (x ∷ xs) = grind (arith, filter_map_is p f xs)

pub count_by_map : {X : Type 0} (p : X → Bool) (f : ℕ → X) (xs : List ℕ)
    → count_by p (map f xs) ≡ count_by (λ i. p (f i)) xs
count_by_map p f xs = grind (arith, common_steps, count_is, count, sum_by-cons)

pub count_by_agree : (p q : ℕ → Bool) (xs : List ℕ) → ((x : ℕ) → In x xs → p x ≡ q x) → count_by p xs ≡ count_by q xs
count_by_agree p q xs h = count_is p xs ∙ count_agree p q xs h ∙ sym (count_is q xs)

pub map_map : {X Y : Type 0} (g : X → Y) (f : ℕ → X) (xs : List ℕ) → map g (map f xs) ≡ map (λ i. g (f i)) xs
map_map g f [] = refl
map_map g f (x ∷ xs) = ap (λ l. g (f x) ∷ l) (map_map g f xs)

-- what holds of a whole list holds at each number
pub all_at : {X : Type 0} (P : X → Type 0) (f : ℕ → X) (xs : List ℕ) → All P (map f xs) → (i : ℕ) → In i xs → P (f i)
all_at P f [] a i m = absurd m
all_at P f (x ∷ xs) a i (inl e) = rw e (a 0 (f x) (omega arith))
all_at P f (x ∷ xs) a i (inr m) = all_at P f xs (λ k d lt. a (suc k) d (omega arith)) i m

pub at_all : {X : Type 0} (P : X → Type 0) (f : ℕ → X) (xs : List ℕ) → ((i : ℕ) → In i xs → P (f i)) → All P (map f xs)
at_all P f [] h k d lt = grind arith
at_all P f (x ∷ xs) h k d lt = grind (arith, at_all P f xs)
