-- What holds of each element of a list, under its index, and of one more holds of each once that is pushed.
use Rattle.std.proofs.Common.{◌≡◌, ℕ, ◌+◌, ◌<◌, List, [], ◌∷◌, ◌++◌, length, length-append, get_or, arith, refl}
use Rattle.std.proofs.Common.{below_more}
use Rattle.std.proofs.lemmas.List.{get_or_append_left, get_or_push}

pub each_upto : {A : Type 0} (P : ℕ → A → Type 0) (xs : List A) (x d : A) (n : ℕ) → length xs ≡ n
    → ((i : ℕ) → i < n → P i (get_or xs i d)) → P n x → (i : ℕ) → i < n + 1 → P i (get_or (xs ++ x ∷ []) i d)
each_upto P xs x d n long old new = below_more (λ i. P i (get_or (xs ++ x ∷ []) i d)) n
    (λ i lt. rw (get_or_append_left xs (x ∷ []) d i (omega arith)) (old i lt)) (rw (get_or_push xs x d n long) new)

pub each_pushed : {A : Type 0} (P : ℕ → A → Type 0) (xs : List A) (x d : A)
    → ((i : ℕ) → i < length xs → P i (get_or xs i d)) → P (length xs) x
    → (i : ℕ) → i < length (xs ++ x ∷ []) → P i (get_or (xs ++ x ∷ []) i d)
each_pushed P xs x d old new i lt = each_upto P xs x d _ refl old new i (omega (arith, lt, length-append xs (x ∷ [])))
