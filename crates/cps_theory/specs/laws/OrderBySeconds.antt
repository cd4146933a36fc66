-- The ranks in the order of their seconds are one list, whether made earliest first or sorted latest first.
use Rattle.std.proofs.Common.{◌≡◌, ℕ, inl, inr, List, [], ◌∷◌, arith, refl, ap, ap₂}
use Rattle.cps_theory.specs.RankLists.{In}
use Rattle.cps_theory.specs.Feasible.{Feasible, RankedProblem, SoundProblem}
use Rattle.cps_theory.specs.CompletingPairs.{onto}
use Rattle.cps_theory.specs.FirstBest.{InLandingOrder}
use Rattle.cps_theory.specs.laws.Continuations.{in_onto, onto_ascends, onto_descends, onto_in}
use Rattle.cps_theory.specs.laws.LandingOrder.{sorted, Descends, sorted_in, in_sorted, sorted_descends}

pub descends_equal : (t : ℕ → ℕ) (xs ys : List ℕ) → Descends t xs → Descends t ys → ((z : ℕ) → In z xs → In z ys)
    → ((z : ℕ) → In z ys → In z xs) → xs ≡ ys
descends_equal t [] [] d e f g = refl
descends_equal t [] (y ∷ ys) d e f g = absurd (g y (inl refl))
descends_equal t (x ∷ xs) [] d e f g = absurd (f x (inl refl))
descends_equal t (x ∷ xs) (y ∷ ys) d e f g = ap₂ (λ z zs. z ∷ zs) same (descends_equal t xs ys d.1 e.1 forth back)
  where
    same : x ≡ y
    same = elim (f x (inl refl)) [
      | inl s ↦ s
      | inr i ↦ grind arith
    ]

    forth : (z : ℕ) → In z xs → In z ys
    forth z i = elim (f z (inr i)) [
      | inl s ↦ absurd (let b = ap t s in let c = ap t same in omega arith)
      | inr j ↦ j
    ]

    back : (z : ℕ) → In z ys → In z xs
    back z i = elim (g z (inr i)) [
      | inl s ↦ absurd (let b = ap t s in let c = ap t same in omega arith)
      | inr j ↦ j
    ]

pub separate : (p : RankedProblem) (t : ℕ → ℕ) → SoundProblem p → Feasible p t → Descends t (sorted t p.rules.count)
separate p t sound f = sorted_descends t p.rules.count (λ a b qa qb ne e. omega (arith, sound.positive a b))

-- the order by seconds, read the other way
pub in_order_sorted : (p : RankedProblem) (t : ℕ → ℕ) → SoundProblem p → Feasible p t → (qs : List ℕ)
    → InLandingOrder p.rules.count t qs → onto qs [] ≡ sorted t p.rules.count
in_order_sorted p t sound f qs o =
    descends_equal t _ _ (onto_descends t qs [] o.ascends tt (λ q r i j. absurd j)) (separate p t sound f)
    (λ z i. elim (onto_in z qs [] i) [ inl j ↦ in_sorted t _ z (o.ranked z j) | inr j ↦ absurd j ])
    (λ z i. in_onto z qs [] (inl (o.whole z (sorted_in t _ z i))))

pub sorted_in_order : (p : RankedProblem) (t : ℕ → ℕ) → SoundProblem p → Feasible p t
    → InLandingOrder p.rules.count t (onto (sorted t p.rules.count) [])
sorted_in_order p t sound f = record {
  ranked = λ x i. elim (onto_in x (sorted t p.rules.count) [] i) [
    | inl j ↦ sorted_in t p.rules.count x j
    | inr j ↦ search
  ];
  whole = λ x r. in_onto x (sorted t p.rules.count) [] (inl (in_sorted t p.rules.count x r));
  ascends = onto_ascends t (sorted t p.rules.count) [] (separate p t sound f) tt (λ q r i j. absurd i);
}
