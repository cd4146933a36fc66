-- The number of the first element that passes, where the front has number 1.
use Rattle.std.proofs.lemmas.Grind.{common_steps}
use Rattle.std.proofs.Common.{◌≡◌, ℕ, ◌+◌, ◌<◌, Bool, List, [], ◌∷◌, length, Option, None, refl, ap, ◌∙◌}
use Rattle.std.proofs.Common.{arith}
use Rattle.std.specs.Prelude.{option_map, position, IfSome}
use Rattle.std.specs.Option.{MatchOption, IsSomeAnd}
use Rattle.std.specs.List.{position_from}
use Rattle.std.proofs.lemmas.Iterator.Adapters.{position_from-zero}
use Rattle.cps_theory.specs.FirstFound.{element_from}

numbers : {S : Type 0} (test : S → Bool) (xs : List S) (i : ℕ)
    → option_map (λ n. n + 1) (position_from test i xs) ≡ element_from test (i + 1) xs
unfolding element_from
numbers test [] i = refl
numbers test (x ∷ xs) i = grind (arith, numbers test xs (i + 1))

one_more : {Q : ℕ → ℕ → Type 0} (p m : Option ℕ) (end : ℕ) → IfSome p (λ i. i < end)
    → MatchOption p (m ≡ None) (λ i. IsSomeAnd m (Q i)) → ((i n : ℕ) → i < end → Q i n → n ≡ i + 1)
    → m ≡ option_map (λ n. n + 1) p
one_more p m end b h next = grind (arith, common_steps)

pub number_found : {S : Type 0} {Q : ℕ → ℕ → Type 0} (test : S → Bool) (xs : List S) (p m : Option ℕ)
    → p ≡ position test xs → IfSome p (λ i. i < length xs) → MatchOption p (m ≡ None) (λ i. IsSomeAnd m (Q i))
    → ((i n : ℕ) → i < length xs → Q i n → n ≡ i + 1) → m ≡ element_from test 1 xs
number_found test xs p m e b h next = one_more p m (length xs) b h next
    ∙ ap (option_map (λ n. n + 1)) (e ∙ position_from-zero test xs) ∙ numbers test xs 0
