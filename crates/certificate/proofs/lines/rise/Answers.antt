-- Each pair and the next rise, place by place.
use Rattle.std.proofs.Common.{rules, tests, ◌≡◌, ◌+◌, ◌<◌, ◌&&◌, ℕ, suc, zero, List, [], ◌∷◌, Bool, true, false}
use Rattle.std.proofs.Common.{length, arith, subst}
use Rattle.std.specs.Prelude.{nat_lt, slice_index_or}
use Rattle.std.specs.List.{IsAllAdjacentAnswer, AllAdjacentBelow}
use Rattle.std.proofs.lemmas.Fn.{always_returns_same}
use Rattle.certificate.specs.States.{Pair, rises}
use Rattle.certificate.proofs.lines.rise.Goals as goal

abbrev is_next : Pair → Pair → Bool
is_next p q = nat_lt p.0 q.0 && nat_lt q.1 p.1

one_on : (k : ℕ) → suc k + 1 ≡ suc (k + 1)
one_on k = omega arith

all_rise : (xs : List Pair) → AllAdjacentBelow (λ x y. true ≡ is_next x y) xs (length xs) → true ≡ rises xs
all_rise [] each = cc
all_rise (p ∷ []) each = cc
all_rise (p ∷ q ∷ xs) each =
    let here : true ≡ is_next p q = each 0 p (omega arith) in
    let rest = all_rise (q ∷ xs)
    (λ k d lt. subst (λ n. true ≡ is_next (slice_index_or (q ∷ xs) k d) (slice_index_or (p ∷ q ∷ xs) n d))
    (one_on k) (each (suc k) d (omega arith))) in
    grind arith

one_falls : (xs : List Pair) (k : ℕ) → k + 1 < length xs
    → ((d : Pair) → false ≡ is_next (slice_index_or xs k d) (slice_index_or xs (k + 1) d)) → false ≡ rises xs
one_falls [] k lt falls = absurd (omega arith)
one_falls (p ∷ []) k lt falls = absurd (omega arith)
one_falls (p ∷ q ∷ xs) zero lt falls = let here = falls p in grind arith
one_falls (p ∷ q ∷ xs) (suc k) lt falls =
    let rest = one_falls (q ∷ xs) k (omega arith) (λ d. subst (λ n. false ≡ is_next (slice_index_or (q ∷ xs) k d)
    (slice_index_or (p ∷ q ∷ xs) n d)) (one_on k) (falls d)) in
    search rules

answered : (xs : List Pair) (r : Bool) → IsAllAdjacentAnswer (λ x y b. b ≡ is_next x y) xs r → r ≡ rises xs
answered xs true each = all_rise xs each
answered xs false one = one_falls xs one.0 one.1 one.2

pub returns : goal.returns
returns c = answered c.args.pairs.now c.is_sorted_by.result
    (c.is_sorted_by.ensures.cases is_next (always_returns_same _ _ _ (λ a r q k. search (rules, tests))))
