-- Examples of prefixes and their nodes: legal orders, windows and patterns.
use Rattle.std.proofs.Common.{List, ◌≡◌, ℕ, inl, inr, [], ◌∷◌, true, false, refl, arith}
use Rattle.std.proofs.lemmas.Bool.{false≢true}
use Rattle.cps_theory.specs.LegalPrefix.{FitsBehind, IsLegalPrefix, Legal, OrderRules}
use Rattle.cps_theory.specs.WindowLists.{DistinctLists, Sized}
use Rattle.cps_theory.specs.Patterns.{IsPlacedByPattern, IsShaped, PatternPermits, pattern_node, pattern_push}
use Rattle.cps_theory.specs.laws.LegalPrefix.{legal_is_prefix}
use Rattle.cps_theory.specs.laws.PatternShape.{legal_is_shaped}

-- two flights, k = 1
abbrev pub two : OrderRules
two = record { count = 2; most = 1; back = λ r. 1; before = λ a r. false }

-- rank 2 lands first
swapped_fits : FitsBehind two [] 2
swapped_fits = omega (arith, false≢true)

pub swapped_legal : Legal two (1 ∷ 2 ∷ [])
swapped_legal = grind (arith, false≢true, swapped_fits)

-- with k = 0 it may not
kept_in_rank_order : FitsBehind (record two { most = 0 }) [] 2 → ⊥
kept_in_rank_order f = absurd (omega arith)

abbrev swapped : List ℕ
swapped = 2 ∷ 1 ∷ []

window_lists : DistinctLists ((0 ∷ []) ∷ (1 ∷ []) ∷ [])
window_lists = ((λ i. elim i [ inl e ↦ (cc) | inr j ↦ j ]), ((λ i. i), tt))

window_is_sized : Sized 3 1 (2 ∷ [])
window_is_sized = omega arith

-- ---- patterns; the digits of ranks p - k + 1 to p + k

pattern_start : pattern_node two [] ≡ (0, true ∷ false ∷ [], 0)
pattern_start = refl

pattern_two : pattern_node two (2 ∷ []) ≡ (1, false ∷ true ∷ [], 2)
pattern_two = refl

pattern_both : pattern_node two (1 ∷ 2 ∷ []) ≡ (2, true ∷ false ∷ [], 1)
pattern_both = refl

pattern_pushed : pattern_push two (pattern_node two (2 ∷ [])) 1 ≡ pattern_node two (1 ∷ 2 ∷ [])
pattern_pushed = refl

pattern_places : IsPlacedByPattern two (1, false ∷ true ∷ [], 2) 2
pattern_places = inr refl

-- rank 1 may come behind rank 2, and rank 2 not again
one_may_come : PatternPermits two (1, false ∷ true ∷ [], 2) 1
one_may_come = grind (arith, false≢true)

two_may_not : PatternPermits two (1, false ∷ true ∷ [], 2) 2 → ⊥
two_may_not m = m.is_new (inr refl)

-- ---- as a whole, and as a network

swapped_is_legal : IsLegalPrefix two (1 ∷ 2 ∷ [])
swapped_is_legal = (legal_is_prefix two (λ r. omega arith) _).0 swapped_legal

pattern_is_shaped : IsShaped 1 2 (2, true ∷ false ∷ [], 1)
pattern_is_shaped = legal_is_shaped two (λ r. omega arith) 1 _ swapped_legal
