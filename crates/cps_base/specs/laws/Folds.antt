-- What a `fold` keeps, by the number of elements so far, and what it makes from the last element on: std says it of a
-- run of calls.
use Rattle.std.proofs.Common.{◌≡◌, ℕ, suc, ◌+◌, ◌-◌, ◌<◌, ◌≤◌, List, [], ◌∷◌, map, length, fold, reverse, Option, Some}
use Rattle.std.proofs.Common.{refl, sym, ap, subst, ◌∙◌, arith}
use Rattle.std.specs.Prelude.{slice_get}
use Rattle.std.specs.List.{FoldsTo, range_with_len}
use Rattle.std.specs.Iterator.{Drains}
use Rattle.std.proofs.lemmas.Iterator.{YieldsList, items_from_drains, YieldsList-from_range}
use Rattle.std.proofs.lemmas.Option.{slice_get-map, slice_get_within, get_or_from_slice_get}
use Rattle.std.proofs.lemmas.List.{length-map, reverse-append}
use Rattle.std.proofs.lemmas.List.Sums.{fold_push}
use Rattle.std.specs.Option.{option_map}
use Rattle.std.specs.declared.ops.Range.{Range}
use Rattle.std.proofs.iter.Yields.{nat_range_steps}
use Rattle.std.proofs.lemmas.List.FromFn.{length-range_with_len, get_or-range_with_len}
use denote.Param.Members.{Mut, Called}

module _ {A C F : Type 0} {g : Mut F (C × (A × Unit {0})) C} (f : F) where
  keeps : (J : ℕ → C → Type 0) (xs : List A) (i : ℕ) (a r : C) (q : F) → J i a
      → ((k : ℕ) (a : C) (x : A) (b : C) (q : F) → slice_get xs k ≡ Some x → J (i + k) a → Called g f (a, (x, tt)) b q
      → (q ≡ f) × J (i + k + 1) b)
      → FoldsTo {P = F × C} (λ p x q. Called g p.0 (p.1, (x, tt)) q.1 q.0) (f, a) xs (q, r) → J (i + length xs) r
  keeps J [] i a r q held step e = subst (J (i + 0)) (ap (λ (p : F × C). p.1) e) (subst (λ n. J n a) (omega arith) held)
  keeps J (x ∷ xs) i a r q held step (j, called, rest) =
      let one = step 0 a x j.1 j.0 refl (subst (λ n. J n a) (omega arith) held) called in
      let kept = keeps J xs (i + 1) j.1 r q (subst (λ n. J n j.1) (omega arith) one.1)
      (λ k b y c p at held called. let more = step (suc k) b y c p at (subst (λ n. J n b) (omega arith) held) called in
      (more.0, subst (λ n. J n c) (omega arith) more.1))
      (subst (λ h. FoldsTo {P = F × C} (λ p x q. Called g p.0 (p.1, (x, tt)) q.1 q.0) (h, j.1) xs (q, r)) one.0 rest) in
      subst (λ n. J n r) (omega arith) kept

  module _ {S : Type 0} {steps : S → Option A → S → Type 0} {s : S} where
    -- J holds of the number of elements so far and what is made of them
    pub kept_by_fold : {B : Type 0} {v : A → B} {all : List B} (J : ℕ → C → Type 0) {a r : C}
        → (xs : List A) × (q : F) × Drains steps s xs
        × FoldsTo {P = F × C} (λ p x q. Called g p.0 (p.1, (x, tt)) q.1 q.0) (f, a) xs (q, r)
        → YieldsList steps v s all → J 0 a
        → ((i : ℕ) (a : C) (x : A) (b : C) (q : F) → slice_get all i ≡ Some (v x) → J i a → Called g f (a, (x, tt)) b q
        → (q ≡ f) × J (i + 1) b)
        → J (length all) r
    kept_by_fold {B} {v} {all} J {a} {r} (xs, q, drains, folds) road held step =
        let is : map v xs ≡ all = items_from_drains xs (drains.1.0, drains.1.1, λ _. (drains.0, drains.1.2)) road in
        let long : length xs ≡ length all = sym (length-map xs v) ∙ ap length is in
        let kept = keeps J xs 0 a r q held
        (λ k b x c p at held called.
        let more = step k b x c p (ap (λ ys. slice_get ys k) (sym is) ∙ slice_get-map v xs k ∙ ap (option_map v) at)
        (subst (λ n. J n b) (omega arith) held) called in
        (more.0, subst (λ n. J n c) (omega arith) more.1)) folds in
        subst (λ n. J n r) (omega arith) kept

-- the number at a place of a range
pub number_at : (from n k x : ℕ) → slice_get (range_with_len from n) k ≡ Some x → (x ≡ from + k) × (k < n)
number_at from n k x at =
    let within = slice_get_within (range_with_len from n) k x at in
    let below : k < n = omega (arith, within, length-range_with_len from n) in
    (sym (get_or_from_slice_get (range_with_len from n) k x 0 at) ∙ get_or-range_with_len from n k 0 below, below)

module _ {C F : Type 0} {g : Mut F (C × (ℕ × Unit {0})) C} (f : F) {s : Range ℕ} where
  -- the same, where a range is folded: J holds of the next number and what is made of those before it
  pub kept_by_fold_of_range : (from to : ℕ) (J : ℕ → C → Type 0) {a r : C} → from ≤ to
      → s ≡ record { start = from; end = to }
      → (xs : List ℕ) × (q : F) × Drains nat_range_steps s xs
      × FoldsTo {P = F × C} (λ p x q. Called g p.0 (p.1, (x, tt)) q.1 q.0) (f, a) xs (q, r)
      → J from a
      → ((i : ℕ) (a b : C) (q : F) → from ≤ i → i < to → J i a → Called g f (a, (i, tt)) b q → (q ≡ f) × J (i + 1) b)
      → J to r
  kept_by_fold_of_range from to J {a} {r} some is ran held step =
      let kept = kept_by_fold f (λ n c. J (from + n) c) ran (YieldsList-from_range from to (to - from) is refl)
      (subst (λ n. J n a) (omega arith) held)
      (λ k b x c q at held called.
      let here = number_at from (to - from) k x at in
      let more = step (from + k) b c q (omega arith) (omega (arith, here)) held
      (subst (λ n. Called g f (b, (n, tt)) c q) here.0 called) in
      (more.0, subst (λ n. J n c) (omega arith) more.1)) in
      let long = length-range_with_len from (to - from) in
      subst (λ n. J n r) (omega arith) kept

-- what is made from the last element on, where it is said by the first element and what is made of the others
pub fold_from_back : {X B : Type 0} (step : B → X → B) (none : B) (answer : List X → B) → answer [] ≡ none
    → ((x : X) (xs : List X) → answer (x ∷ xs) ≡ step (answer xs) x)
    → (xs : List X) → fold step none (reverse xs) ≡ answer xs
fold_from_back step none answer nothing more [] = sym nothing
fold_from_back step none answer nothing more (x ∷ xs) =
    ap (fold step none) (reverse-append (x ∷ []) xs) ∙ fold_push step none (reverse xs) x
    ∙ ap (λ b. step b x) (fold_from_back step none answer nothing more xs) ∙ sym (more x xs)
