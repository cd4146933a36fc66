-- Where a `fold` may call its closure.
use Rattle.std.proofs.Common.{◌<◌, ◌+◌, arith, ◌≡◌, ℕ, List, length, Option, Some, refl, sym, subst}
use Rattle.std.specs.Prelude.{slice_get}
use Rattle.std.specs.Fn.{Takes}
use Rattle.std.specs.Iterator.{CallableInFold, FoldTurn}
use Rattle.std.proofs.lemmas.Fn.{serves_by}
use Rattle.std.proofs.lemmas.Iterator.{YieldsList, YieldsList-from_range}
use Rattle.std.proofs.lemmas.Iterator.Consumers.{YieldsList-turn}
use Rattle.std.proofs.lemmas.List.{length_push}
use Rattle.std.proofs.lemmas.Option.{slice_get_read}
use Rattle.std.specs.List.{range_with_len}
use Rattle.std.proofs.iter.Yields.{nat_range_steps}
use Rattle.cps_base.specs.laws.Folds.{number_at}
use Rattle.std.specs.declared.ops.Range.{Range}
use denote.Param.Members.{Mut, Called}

module _ {A B C F S : Type 0} {steps : S → Option A → S → Type 0} {v : A → B} {s : S} {all : List B}
    {g : Mut F (C × (A × Unit {0})) C} {f : F} {init : C} where
  -- at each place of a list, whatever it has made so far
  pub fold_may_call : YieldsList steps v s all
      → ((a : C) (x : A) (b : C) (q : F) → Called g f (a, (x, tt)) b q → q ≡ f)
      → ((k : ℕ) (a : C) (x : A) → slice_get all k ≡ Some (v x) → Takes g f (a, (x, tt)))
      → CallableInFold steps g s f init
  fold_may_call road same takes =
      serves_by (FoldTurn g) (λ xs p. p.0 ≡ f)
      (λ xs p x q at called. same p.1 x q.1 q.0 (subst (λ h. Called g h (p.1, (x, tt)) q.1 q.0) at called))
      steps (λ p x. Takes g p.0 (p.1, (x, tt))) s (f, init) refl
      (λ xs t p x u yields step at.
      let turn = YieldsList-turn road xs t yields (Some x) u x refl step in
      subst (λ h. Takes g h (p.1, (x, tt))) (sym at)
      (takes (length xs) p.1 x (slice_get_read all (length all) (length xs) (v x) refl turn.0 turn.1)))

module _ {C F : Type 0} {g : Mut F (C × (ℕ × Unit {0})) C} {f : F} {init : C} (s : Range ℕ)
    (n : ℕ) (is : s ≡ record { start = 0; end = n }) where
  -- only with what it can have made by the number of turns so far: J holds of both
  pub fold_of_range_may_call_keeping : (J : ℕ → C → Type 0) → J 0 init
      → ((k x : ℕ) (a b : C) (q : F) → J k a → Called g f (a, (x, tt)) b q → (q ≡ f) × J (k + 1) b)
      → ((k : ℕ) (a : C) → k < n → J k a → Takes g f (a, (k, tt)))
      → CallableInFold nat_range_steps g s f init
  fold_of_range_may_call_keeping J held keeps takes =
      serves_by (FoldTurn g) (λ xs p. (p.0 ≡ f) × J (length xs) p.1)
      (λ xs p x q at called.
      let more = keeps (length xs) x p.1 q.1 q.0 at.1 (subst (λ h. Called g h (p.1, (x, tt)) q.1 q.0) at.0 called) in
      (more.0, subst (λ k. J k q.1) (sym (length_push xs x)) more.1))
      nat_range_steps (λ p x. Takes g p.0 (p.1, (x, tt))) s (f, init) (refl, held)
      (λ xs t p x u yields step at.
      let turn = YieldsList-turn (YieldsList-from_range 0 n n is (omega arith)) xs t yields (Some x) u x refl step in
      let here = number_at 0 n (length xs) x (slice_get_read (range_with_len 0 n) (length (range_with_len 0 n))
      (length xs) x refl turn.0 turn.1) in
      subst (λ h. Takes g h (p.1, (x, tt))) (sym at.0)
      (subst (λ m. Takes g f (p.1, (m, tt))) (omega (arith, here)) (takes (length xs) p.1 here.1 at.1)))

  -- at each number, whatever it has made so far
  pub fold_of_range_may_call : ((a : C) (x : ℕ) (b : C) (q : F) → Called g f (a, (x, tt)) b q → q ≡ f)
      → ((k : ℕ) (a : C) → k < n → Takes g f (a, (k, tt)))
      → CallableInFold nat_range_steps g s f init
  fold_of_range_may_call same takes = fold_of_range_may_call_keeping (λ k a. Unit {0}) tt
      (λ k x a b q held called. (same a x b q called, tt)) (λ k a lt held. takes k a lt)
