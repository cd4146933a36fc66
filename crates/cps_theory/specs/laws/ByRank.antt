-- Flights by rank, the first of rank 1: a list read by rank is the list again, and keeps its order.
use Rattle.std.proofs.Common.{◌≡◌, ℕ, zero, suc, ◌<◌, ◌≤◌, inl, inr, Bool, true, List, [], ◌∷◌, ◌++◌, length, map}
use Rattle.std.proofs.Common.{get_or, refl, sym, ap, ap₂, ◌∙◌, arith}
use Rattle.std.specs.Prelude.{IsPermutation}
use Rattle.std.specs.List.{AllZip}
pub use Rattle.std.proofs.lemmas.List.{get_or_past as get_past}
use Rattle.std.proofs.lemmas.Slice.Zip.{AllZip-long}
use Rattle.std.proofs.lemmas.List.Sorted.{IsPermutation-refl, IsPermutation-cons, IsPermutation-trans}
use Rattle.std.proofs.lemmas.List.Sorted.{IsPermutation-to_front}
use Rattle.cps_theory.specs.RankLists.{In, IsRank, Ordered, of_rank, upto}

at_suc : {X : Type 0} (d x : X) (xs : List X) (r : ℕ) → 1 ≤ r → of_rank d (x ∷ xs) (suc r) ≡ of_rank d xs r
at_suc d x xs r one = grind arith

upto_last : {X : Type 0} (f : ℕ → X) (n : ℕ) → map f (upto (suc n)) ≡ map (λ r. f (suc r)) (upto n) ++ f 1 ∷ []
upto_last f zero = refl
upto_last f (suc n) = ap (λ l. f (suc (suc n)) ∷ l) (upto_last f n)

map_upto : {X : Type 0} (f g : ℕ → X) (n : ℕ) → ((r : ℕ) → 1 ≤ r → f r ≡ g r) → map f (upto n) ≡ map g (upto n)
map_upto f g zero h = refl
map_upto f g (suc n) h = ap₂ (λ x l. x ∷ l) (omega arith) (map_upto f g n h)

pub ranks_permute : {X : Type 0} (d : X) (xs : List X) → IsPermutation (map (of_rank d xs) (upto (length xs))) xs
ranks_permute d [] = IsPermutation-refl []
ranks_permute d (x ∷ xs) =
    let n = length xs in
    let e = upto_last (of_rank d (x ∷ xs)) n ∙ ap (λ l. l ++ x ∷ []) (map_upto _ _ n (at_suc d x xs)) in
    rw e (IsPermutation-trans _ _ _ (IsPermutation-to_front (map _ _) x)
    (IsPermutation-cons x (map _ _) xs (ranks_permute d xs)))

pub at_in : (d : ℕ) (xs : List ℕ) (r : ℕ) → 1 ≤ r → r ≤ length xs → In (of_rank d xs r) xs
at_in d (x ∷ xs) (suc (suc i)) one le = inr (at_in d xs (suc i) (omega arith) (omega arith))
at_in d xs r one le = grind arith

pub in_at : (d : ℕ) (xs : List ℕ) (x : ℕ) → In x xs → (r : ℕ) × IsRank (length xs) r × (of_rank d xs r ≡ x)
in_at d [] x i = absurd i
in_at d (y ∷ xs) x (inl e) = (1, (omega arith, omega arith), sym e)
in_at d (y ∷ xs) x (inr i) = let w =
    in_at d xs x i in (suc w.0, (omega arith, (omega arith)), at_suc d y xs w.0 w.1.0 ∙ w.2)

pub ordered_at : (before : ℕ → ℕ → Bool) (d : ℕ) (xs : List ℕ) → Ordered before xs → (q r : ℕ)
    → 1 ≤ q → q < r → r ≤ length xs → before (of_rank d xs q) (of_rank d xs r) ≡ true
ordered_at before d (x ∷ xs) o (suc zero) (suc (suc r)) one lt le =
    o.0 (get_or xs r d) (at_in d xs (suc r) (omega arith) (omega arith))
ordered_at before d (x ∷ xs) o (suc (suc q)) (suc (suc r)) one lt le =
    ordered_at _ d xs o.1 (suc q) (suc r) (omega arith) (omega arith) (omega arith)
ordered_at before d xs o q r one lt le = grind arith

-- ---- reads

pub zip_at : {X Y : Type 0} (Q : X → Y → Type 0) (xs : List X) (ys : List Y) → AllZip Q xs ys
    → (i : ℕ) (d : X) (e : Y) → i < length xs → Q (get_or xs i d) (get_or ys i e)
zip_at Q [] ys a i d e lt = grind arith
zip_at Q (x ∷ xs) ys a i d e lt = grind (arith, zip_at Q xs)

pub zip_long : {X Y : Type 0} (Q : X → Y → Type 0) (xs : List X) (ys : List Y) → AllZip Q xs ys → length xs ≡ length ys
zip_long Q xs ys a = sym (AllZip-long Q xs ys a)
