-- Counting in a list of ranks: by tests that cover, split or follow one another, behind a filter or a map.
use Rattle.std.proofs.Common.{◌≡◌, ℕ, zero, suc, ◌+◌, ◌≤◌, ◌⊎◌, inl, inr, List, [], ◌∷◌, cond, Bool, true, false, ◌&&◌}
use Rattle.std.proofs.Common.{ltb, leb, eqb, max, count_by, arith, refl, ap, ap₂, ◌∙◌, zero-le, ◌<◌, length, map}
use Rattle.std.proofs.Common.{filter, not}
use Rattle.std.proofs.lemmas.Bool.{cases_lt, cases_eq, cases_Bool, ltb-true, leb-true, eqb-true, le-leb, eq-eqb}
use Rattle.std.proofs.lemmas.Bool.{and_parts, and_from, false≢true}
use Rattle.std.proofs.lemmas.List.Sums.{sum_by-cons}
use Rattle.cps_theory.specs.RankLists.{Distinct, In}

-- `count_by`, as it computes at a list's head
abbrev pub count : (ℕ → Bool) → List ℕ → ℕ
count t [] = 0
count t (r ∷ rs) = cond (t r) 1 0 + count t rs

pub count_is : (t : ℕ → Bool) (rs : List ℕ) → count_by t rs ≡ count t rs
count_is t [] = refl
count_is t (r ∷ rs) = sum_by-cons _ r rs ∙ ap (λ n. cond (t r) 1 0 + n) (count_is t rs)

pub at_yes : (b : Bool) → b ≡ true → cond {A = ℕ} b 1 0 ≡ 1
at_yes b e = cc

pub at_no : (b : Bool) → b ≡ false → cond {A = ℕ} b 1 0 ≡ 0
at_no b e = cc

covered : (b c d : Bool) → (b ≡ true → (c ≡ true) ⊎ (d ≡ true)) → cond b 1 0 ≤ cond c 1 0 + cond d 1 0
covered b c d h = grind (arith, zero-le, false≢true)

-- what two tests cover between them is no more than both count
pub count_cover : (t u v : ℕ → Bool) (rs : List ℕ) → ((r : ℕ) → In r rs → t r ≡ true → (u r ≡ true) ⊎ (v r ≡ true))
    → count t rs ≤ count u rs + count v rs
count_cover t u v [] h = zero-le
count_cover t u v (r ∷ rs) h = grind (arith, covered, count_cover t u v rs)

pub count_none : (t : ℕ → Bool) (rs : List ℕ) → ((r : ℕ) → In r rs → t r ≡ true → ⊥) → count t rs ≡ 0
count_none t [] h = refl
count_none t (r ∷ rs) h = grind (arith, cases_Bool, count_none t rs)

-- a number stands once in a list of different ones
pub count_once : (v : ℕ) (rs : List ℕ) → Distinct rs → count (λ r. eqb r v) rs ≤ 1
count_once v [] d = zero-le
count_once v (r ∷ rs) d = grind (arith, cases_eq, count_none, eqb-true, cases_Bool, at_no, count_once v rs)

-- of different numbers, at most b - x are above x and up to b
pub count_between : (x b : ℕ) (rs : List ℕ) → Distinct rs → count (λ r. ltb x r && leb r b) rs + x ≤ max x b
count_between x zero rs d = grind (arith, count_none, and_parts, ltb-true, leb-true)
count_between x (suc b) rs d =
    let ih = count_between x b rs d in
    elim (cases_lt x (suc b)) [
      | inl lt ↦
          let one = count_once (suc b) rs d in
          let step = count_cover _ _ _ rs (λ r i q.
          let p = and_parts (ltb x r) (leb r (suc b)) q in
          let c = leb-true r _ p.1 in
          elim (cases_eq r (suc b)) [
            | inl e ↦ inr (eq-eqb r _ e)
            | inr ne ↦ inl (and_from _ _ p.0 (le-leb r b (omega arith)))
          ]) in
          omega arith
      | inr le ↦ grind arith
    ]

pub count_filter : (p q : ℕ → Bool) (xs : List ℕ) → count p (filter q xs) ≡ count (λ x. q x && p x) xs
count_filter p q [] = refl
count_filter p q (x ∷ xs) = grind (arith, count_filter p q xs)

pub count_map : (p : ℕ → Bool) (h : ℕ → ℕ) (xs : List ℕ) → count p (map h xs) ≡ count (λ x. p (h x)) xs
count_map p h [] = refl
count_map p h (x ∷ xs) = ap (λ n. cond (p (h x)) 1 0 + n) (count_map p h xs)

-- a test that another implies counts no fewer
pub count_weaker : (p q : ℕ → Bool) (xs : List ℕ) → ((x : ℕ) → In x xs → p x ≡ true → q x ≡ true)
    → count p xs ≤ count q xs
count_weaker p q xs h =
    let a = count_cover p q (λ x. false) xs (λ x i e. inl (h x i e)) in grind (arith, count_none, false≢true)

-- and more, where it holds of one more
pub count_stricter : (p q : ℕ → Bool) (y : ℕ) (xs : List ℕ) → In y xs → p y ≡ false → q y ≡ true
    → ((x : ℕ) → In x xs → p x ≡ true → q x ≡ true) → count p xs < count q xs
count_stricter p q y [] i no' yes' h = absurd i
count_stricter p q y (x ∷ xs) i no' yes' h = grind (arith, count_weaker, false≢true, count_stricter p q y xs)

-- two tests that split a third count as much together
pub count_split : (p q r : ℕ → Bool) (xs : List ℕ)
    → ((x : ℕ) → In x xs → ((r x ≡ true) × (p x ≡ true) × (q x ≡ false))
    ⊎ (((r x ≡ true) × (p x ≡ false) × (q x ≡ true)) ⊎ ((r x ≡ false) × (p x ≡ false) × (q x ≡ false))))
    → count r xs ≡ count p xs + count q xs
count_split p q r [] h = refl
count_split p q r (x ∷ xs) h = grind (arith, count_split p q r xs)

-- what a test counts, it counts in what passes another and in what does not
pub count_parts : (p q : ℕ → Bool) (xs : List ℕ)
    → count p xs ≡ count p (filter q xs) + count p (filter (λ x. not (q x)) xs)
count_parts p q [] = refl
count_parts p q (x ∷ xs) = grind (arith, not, count_parts p q xs)

pub count_agree : (p q : ℕ → Bool) (xs : List ℕ) → ((x : ℕ) → In x xs → p x ≡ q x) → count p xs ≡ count q xs
count_agree p q [] h = refl
count_agree p q (x ∷ xs) h = ap₂ (λ b n. cond b 1 0 + n) (h x (inl refl)) (count_agree p q xs (λ y i. h y (inr i)))

pub count_length : (p : ℕ → Bool) (rs : List ℕ) → ((r : ℕ) → In r rs → p r ≡ true) → count p rs ≡ length rs
count_length p [] h = refl
count_length p (r ∷ rs) h = grind (arith, at_yes, count_length p rs)
