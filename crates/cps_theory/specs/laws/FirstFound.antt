-- What a search finds first, and what it has passed where it finds nothing.
use Rattle.std.proofs.Common.{◌≡◌, ℕ, zero, suc, ◌+◌, ◌<◌, ◌≤◌, Bool, false, cond, List, ◌∷◌, length, get_or}
use Rattle.std.proofs.Common.{Option, Some, None, refl, arith}
use Rattle.std.specs.Option.{option_or}
use Rattle.std.proofs.lemmas.Bool.{cases_eq}
use Rattle.cps_theory.specs.FirstFound.{element_from, first_from, with_number}

-- nothing is found where nothing passes
pub none_from : (test : ℕ → Bool) (x m : ℕ) → ((y : ℕ) → x ≤ y → y < x + m → test y ≡ false)
    → first_from test x m ≡ None
none_from test x zero h = refl
none_from test x (suc m) h =
    rw (h x (omega arith) (omega arith)) (none_from _ _ m (λ y le lt. h y (omega arith) (omega arith)))

-- and nothing passes where nothing is found
pub from_none : (test : ℕ → Bool) (x m : ℕ) → first_from test x m ≡ None → (y : ℕ) → x ≤ y → y < x + m → test y ≡ false
from_none test x zero e y le lt = absurd (omega arith)
from_none test x (suc m) e y le lt = go _ refl e (λ f l. from_none test _ m f y l (omega arith))
  where
    go : (b : Bool) → test x ≡ b → cond b (Some x) (first_from test (suc x) m) ≡ None
        → (first_from test (suc x) m ≡ None → suc x ≤ y → test y ≡ false) → test y ≡ false
    go b q e more = grind (arith, cases_eq)

-- ---- elements, where none passes

passes : {S : Type 0} (test : S → Bool) (n : ℕ) (s : S) (ss : List S) → element_from test n (s ∷ ss) ≡ None
    → (test s ≡ false) × (element_from test (n + 1) ss ≡ None)
unfolding element_from
passes test n s ss e = grind arith

-- where none passes, each fails
pub each_fails : {S : Type 0} (test : S → Bool) (n : ℕ) (ss : List S) → element_from test n ss ≡ None
    → (i : ℕ) (d : S) → i < length ss → test (get_or ss i d) ≡ false
each_fails test n (s ∷ ss) e (suc i) d lt = each_fails _ (n + 1) ss (passes _ n s ss e).1 i d (omega arith)
each_fails test n ss e i d lt = grind (arith, passes)

-- ---- of two searches

pub or_none : {A : Type 0} (a b : Option A) → option_or a b ≡ None → (a ≡ None) × (b ≡ None)
or_none a b e = grind arith

pub with_number_none : (i : ℕ) (o : Option ℕ) → with_number i o ≡ None → o ≡ None
with_number_none i o e = grind arith
