-- Dropping pairs that another is no worse than leaves one no later and no dearer for each.
use Rattle.std.proofs.Common.{arith}
use Rattle.std.proofs.Common.{◌≡◌, ◌⊎◌, inl, inr, List, [], ◌∷◌, Bool, true, false, cond, leb, refl, le_refl}
use Rattle.std.proofs.lemmas.Bool.{and_parts, leb-true, false≢true}
use Rattle.cps_theory.specs.Labels.{InPairs, NoWorse, Pair, no_worse}
use Rattle.cps_theory.specs.UndominatedPairs.{Covers, add_pair, some_no_worse, without}

pub no_worse_true : (p q : Pair) → no_worse p q ≡ true → NoWorse p q
no_worse_true p q e = let a = and_parts (leb p.0 q.0) (leb p.1 q.1) e in (leb-true p.0 q.0 a.0, leb-true p.1 q.1 a.1)

without_covers : (p q : Pair) (qs : List Pair) → InPairs q qs → NoWorse p q ⊎ InPairs q (without p qs)
without_covers p q [] i = absurd i
without_covers p q (x ∷ qs) i = grind (arith, no_worse_true, without_covers p q qs)

some_in : (p : Pair) (qs : List Pair) → some_no_worse p qs ≡ true → (q : Pair) × InPairs q qs × NoWorse q p
some_in p [] e = absurd (false≢true e)
some_in p (x ∷ qs) e = go _ refl e (some_in p qs)
  where
    go : (b : Bool) → no_worse x p ≡ b → cond b true (some_no_worse p qs) ≡ true
        → (some_no_worse p qs ≡ true → (q : Pair) × InPairs q qs × NoWorse q p) → (q : Pair)
        × ((q ≡ x) ⊎ InPairs q qs) × NoWorse q p
    go true e t ih = (x, inl refl, no_worse_true x p e)
    go false e t ih = let r = ih t in (r.0, inr r.1, r.2)

pub add_covers : (p : Pair) (qs : List Pair) → Covers (p ∷ qs) (add_pair p qs)
add_covers p qs = λ q i. go _ refl q i
  where
    go : (b : Bool) → some_no_worse p qs ≡ b → (q : Pair) → (q ≡ p) ⊎ InPairs q qs
        → (o : Pair) × InPairs o (cond b qs (p ∷ without p qs)) × NoWorse o q
    go true e q x = grind (arith, some_in, le_refl)
    go false e q (inl s) = (p, inl refl, rw s (le_refl p.0, le_refl p.1))
    go false e q (inr i) = elim (without_covers p q qs i) [
      | inl l ↦ (p, inl refl, l)
      | inr j ↦ (q, inr j, (le_refl q.0, le_refl q.1))
    ]
