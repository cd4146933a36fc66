-- Pairs that rise in second and fall in cost: told by their pairs, and swept from a sorted list.
use Rattle.std.proofs.Common.{◌≡◌, ℕ, ◌<◌, ◌≤◌, ◌⊎◌, inl, inr, List, [], ◌∷◌, Bool, true, false, cond, ltb, arith, refl}
use Rattle.std.proofs.Common.{sym, ap, ap₂, ◌∙◌}
use Rattle.std.proofs.lemmas.Bool.{ltb-true, ltb-false}
use Rattle.cps_theory.specs.Labels.{InPairs, NoWorse, Pair}
use Rattle.cps_theory.specs.UndominatedPairs.{InPairOrder, Staircase, sweep}

-- so none is worse than another
pub staircase_apart : (ps : List Pair) → Staircase ps → (p q : Pair) → InPairs p ps → InPairs q ps → NoWorse p q → p ≡ q
staircase_apart [] s p q i j le = grind arith
staircase_apart (x ∷ ps) s p q i j le = grind (arith, staircase_apart ps)

-- stairs with the same pairs are the same list
pub staircase_same : (ps qs : List Pair) → Staircase ps → Staircase qs → ((p : Pair) → InPairs p ps → InPairs p qs)
    → ((q : Pair) → InPairs q qs → InPairs q ps) → ps ≡ qs
staircase_same [] [] s t a b = refl
staircase_same [] (q ∷ qs) s t a b = absurd (b q (inl refl))
staircase_same (p ∷ ps) [] s t a b = absurd (a p (inl refl))
staircase_same (p ∷ ps) (q ∷ qs) s t a b =
    let e = heads (a p (inl refl)) (b q (inl refl)) in
    ap₂ ◌∷◌ e (staircase_same ps qs s.1 t.1 (λ x i. rest_a e x i (a x (inr i))) (λ x i. rest_b e x i (b x (inr i))))
  where
    heads : (p ≡ q) ⊎ InPairs p qs → (q ≡ p) ⊎ InPairs q ps → p ≡ q
    heads x h = grind arith

    rest_a : p ≡ q → (x : Pair) → InPairs x ps → (x ≡ q) ⊎ InPairs x qs → InPairs x qs
    rest_a e x i (inr j) = j
    rest_a e x i (inl f) = absurd (omega (arith, ap (λ (z : Pair). z.0) (f ∙ sym e)))

    rest_b : p ≡ q → (x : Pair) → InPairs x qs → (x ≡ p) ⊎ InPairs x ps → InPairs x ps
    rest_b e x i (inr j) = j
    rest_b e x i (inl f) = absurd (omega (arith, ap (λ (z : Pair). z.0) (f ∙ e)))

sweep_in : (c : ℕ) (ps : List Pair) (q : Pair) → InPairs q (sweep c ps) → InPairs q ps × (q.1 < c)
sweep_in c [] q i = absurd i
sweep_in c (p ∷ ps) q i = go _ refl i (sweep_in p.1 ps q) (sweep_in c ps q)
  where
    go : (b : Bool) → ltb p.1 c ≡ b → InPairs q (cond b (p ∷ sweep p.1 ps) (sweep c ps))
        → (InPairs q (sweep p.1 ps) → InPairs q ps × (q.1 < p.1)) → (InPairs q (sweep c ps) → InPairs q ps × (q.1 < c))
        → ((q ≡ p) ⊎ InPairs q ps) × (q.1 < c)
    go b e j h k = grind (arith, ltb-true)

pub sweep_subset : (c : ℕ) (ps : List Pair) (q : Pair) → InPairs q (sweep c ps) → InPairs q ps
sweep_subset c ps q i = (sweep_in c ps q i).0

pub sweep_staircase : (c : ℕ) (ps : List Pair) → InPairOrder ps → Staircase (sweep c ps)
sweep_staircase c [] o = tt
sweep_staircase c (p ∷ ps) o = go _ (sweep_staircase p.1 ps o.1) (sweep_staircase c ps o.1)
  where
    go : (b : Bool) → Staircase (sweep p.1 ps) → Staircase (sweep c ps)
        → Staircase (cond b (p ∷ sweep p.1 ps) (sweep c ps))
    go b h k = grind (arith, sweep_in)

pub sweep_covers : (c : ℕ) (ps : List Pair) → InPairOrder ps → (q : Pair) → InPairs q ps
    → ((p : Pair) × InPairs p (sweep c ps) × NoWorse p q) ⊎ (c ≤ q.1)
sweep_covers c [] o q i = absurd i
sweep_covers c (p ∷ ps) o q i = go _ refl i (sweep_covers p.1 ps o.1 q) (sweep_covers c ps o.1 q)
  where
    first_le : (q ≡ p) ⊎ InPairs q ps → p.0 ≤ q.0
    first_le (inl s) = omega (arith, ap (λ (z : Pair). z.0) s)
    first_le (inr j) = omega arith

    go : (b : Bool) → ltb p.1 c ≡ b → (q ≡ p) ⊎ InPairs q ps
        → (InPairs q ps → ((x : Pair) × InPairs x (sweep p.1 ps) × NoWorse x q) ⊎ (p.1 ≤ q.1))
        → (InPairs q ps → ((x : Pair) × InPairs x (sweep c ps) × NoWorse x q) ⊎ (c ≤ q.1))
        → ((x : Pair) × InPairs x (cond b (p ∷ sweep p.1 ps) (sweep c ps)) × NoWorse x q) ⊎ (c ≤ q.1)
    go true e (inl s) h k = inl (p, inl refl, rw s (omega arith))
    go true e (inr j) h k = elim (h j) [
      | inl w ↦ inl (w.0, inr w.1, w.2)
      | inr le ↦ inl (p, inl refl, (omega arith))
    ]
    go false e x h k = grind (arith, ltb-false)
