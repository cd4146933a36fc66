-- Neighbours of the laws that are false, each refuted at small values: where a premise is left out or a bound is one
-- too low.
use Rattle.std.proofs.Common.{◌≡◌, ℕ, ◌+◌, ◌^◌, ◌≤◌, List, [], ◌∷◌, length, false, refl, arith}
use Rattle.std.proofs.lemmas.Bool.{false≢true}
use Rattle.cps_theory.specs.RankLists.{above}
use Rattle.cps_theory.specs.Labels.{NoWorse}
use Rattle.cps_theory.specs.LegalPrefix.{Legal, OrderRules}
use Rattle.cps_theory.specs.UndominatedPairs.{sweep}
use Rattle.cps_theory.specs.Agreement.{AgreeBelow}
use Rattle.cps_theory.proofs.NodeExamples.{two, swapped_legal}

-- ---- a prefix of fewer than d places need not stay legal: rank 2 may land first in one problem, and there is no rank
-- 2 in the other

abbrev one : OrderRules
one = record { count = 1; most = 1; back = λ r. 1; before = λ a r. false }

agree_below_two : AgreeBelow 2 two one
agree_below_two = grind (arith, false≢true)

second_first : Legal two (2 ∷ [])
second_first = swapped_legal.1

no_second : Legal one (2 ∷ []) → ⊥
no_second l = absurd (omega arith)

-- ---- a list with windows that stand twice can be longer than the number of windows

abbrev twice : List (List ℕ)
twice = [] ∷ [] ∷ []

stand_twice : length twice ≤ 1 ^ 0 → ⊥
stand_twice le = absurd (omega arith)

-- ---- what a lesser limit refuses: rank 2 first, with k = 0

not_without_shift : Legal (record two { most = 0 }) (2 ∷ []) → ⊥
not_without_shift l = absurd (omega arith)

-- ---- among the ranks of a legal prefix more than max(r, p) - r may be above r

above_one_of_two : above 1 (2 ∷ []) + 1 ≤ 1 → ⊥
above_one_of_two le = absurd (omega arith)

-- ---- a sweep of a list that is not sorted loses a pair that none is no worse than

unsorted_sweep : sweep 100 ((1010, 3) ∷ (1000, 5) ∷ []) ≡ (1010, 3) ∷ []
unsorted_sweep = refl

lost_pair : NoWorse (1010, 3) (1000, 5) → ⊥
lost_pair n = absurd (omega arith)
