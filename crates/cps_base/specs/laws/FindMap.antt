-- What `find_map` gives: std says it of a run of calls, this says it of the list that the iterator gives.
use Rattle.std.proofs.Common.{◌≡◌, ℕ, suc, zero, ◌+◌, ◌<◌, true, List, [], ◌∷◌, ◌++◌, map, drop, length, Option, Some}
use Rattle.std.proofs.Common.{None, refl, ap, subst, ◌∙◌, arith}
use Rattle.std.specs.Prelude.{IsSomeAnd, IfSome, MatchOption, slice_get}
use Rattle.std.specs.Option.{option_or}
use Rattle.std.specs.Iterator.Runs.{SomeRun, AllItemsGive, IsFirstToGive, YieldsRun}
use Rattle.std.proofs.lemmas.Iterator.{YieldsList, items_from_drains}
use Rattle.std.proofs.lemmas.Iterator.Consumers.{YieldsList-so_far, YieldsList-at}
use Rattle.std.proofs.lemmas.List.{take-append-drop}
use denote.Param.Members.{Mut, Called}

-- the first answer along the list
unfoldable pub first_answer : {B C : Type 0} → (B → Option C) → List B → Option C
first_answer h [] = None
first_answer h (x ∷ xs) = option_or (h x) (first_answer h xs)

module _ {A B C F : Type 0} {v : A → B} {g : Mut F (A × Unit {0}) (Option C)} (h : B → Option C) (f : F)
    (acts : (x : A) (r : Option C) (q : F) → Called g f (x, tt) r q → (q ≡ f) × (r ≡ h (v x))) where
  none_answers : (xs : List A) → ((k : ℕ) → IfSome (slice_get xs k) (λ x. Called g f (x, tt) None f))
      → None ≡ first_answer h (map v xs)
  unfolding first_answer
  none_answers [] silent = refl
  none_answers (x ∷ xs) silent = none_answers xs (λ k. silent (suc k))
      ∙ ap (λ o. option_or o (first_answer h (map v xs))) (acts x None f (silent 0)).1

  answers_at : (xs : List A) (rest : List B) (i : ℕ) (y : C)
      → IsSomeAnd (slice_get xs i) (λ x. Called g f (x, tt) (Some y) f)
      → ((k : ℕ) → k < i → IsSomeAnd (slice_get xs k) (λ x. Called g f (x, tt) None f))
      → Some y ≡ first_answer h (map v xs ++ rest)
  unfolding first_answer
  answers_at [] rest i y told silent = absurd told
  answers_at (x ∷ xs) rest zero y told silent =
      ap (λ o. option_or o (first_answer h (map v xs ++ rest))) (acts x (Some y) f told).1
  answers_at (x ∷ xs) rest (suc i) y told silent =
      answers_at xs rest i y told (λ k l. silent (suc k) (omega arith))
      ∙ ap (λ o. option_or o (first_answer h (map v xs ++ rest))) (acts x None f (silent 0 (omega arith))).1

  module _ {S : Type 0} {steps : S → Option A → S → Type 0} {s : S} {all : List B} where
    pub first_answer_from_find_map : (r : Option C)
        → SomeRun steps s (λ p. MatchOption r ((p.whole ≡ true) × AllItemsGive p g f None)
        (λ y. (i : ℕ) × (i < p.len) × (p.len ≡ i + 1) × IsFirstToGive p g f (Some y) None i))
        → YieldsList steps v s all → r ≡ first_answer h all
    unfolding YieldsRun
    first_answer_from_find_map None (p, from, told) road =
        let gave = p.gave in
        let silent = told.1 (λ a r q k. (acts a.0 r q k).0) in
        none_answers p.items (λ k. subst (λ o. IfSome o (λ x. Called g f (x, tt) None f)) (gave.1 k) (silent k))
        ∙ ap (first_answer h) (items_from_drains p.items (gave.0.0, gave.0.1, λ _. gave.0.2 told.0)
        (YieldsList-at from road))
    first_answer_from_find_map (Some y) (p, from, told) road =
        let gave = p.gave in
        let first = told.3 (λ a r q k. (acts a.0 r q k).0) in
        let more = drop (length p.items) all in
        answers_at p.items more told.0 y (subst (λ o. IsSomeAnd o (λ x. Called g f (x, tt) (Some y) f))
        (gave.1 told.0) first.0)
        (λ k l. subst (λ o. IsSomeAnd o (λ x. Called g f (x, tt) None f)) (gave.1 k) (first.1 k l))
        ∙ ap (λ xs. first_answer h (xs ++ more)) (YieldsList-so_far (YieldsList-at from road) p.items gave.0.0 gave.0.1)
        ∙ ap (first_answer h) (take-append-drop (length p.items) all)
