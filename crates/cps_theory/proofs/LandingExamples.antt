-- Examples of landings: lists of ranks, separation, retiming, landing trails and pairs.
use Rattle.std.proofs.Common.{◌≡◌, ℕ, ◌+◌, ◌-◌, ◌≤◌, inl, inr, List, [], ◌∷◌, false, Option, Some, ltb, max, refl}
use Rattle.std.proofs.Common.{arith}
use Rattle.cps_theory.specs.RankLists.{Distinct, In, IsRank, Ordered, above, below, numbers_from, of_rank, upto}
use Rattle.cps_theory.specs.Separation.{Landing}
use Rattle.cps_theory.specs.Retiming.{IsFirstOpen, NeverEarlier}
use Rattle.cps_theory.specs.LandingTrail.{Landed, last_rank, latest_landing, pair_of, ranks}
use Rattle.cps_theory.specs.Labels.{InPairs, NeverCheaper, NoWorse, next_pair, no_worse}
use Rattle.cps_theory.specs.UndominatedPairs.{Covers, InPairOrder, Staircase, add_pair, sweep}
use Rattle.cps_theory.specs.laws.UndominatedPairs.{add_covers}

upto_three : upto 3 ≡ 3 ∷ 2 ∷ 1 ∷ []
upto_three = refl

numbers_three : numbers_from 4 3 ≡ 4 ∷ 5 ∷ 6 ∷ []
numbers_three = refl

abbrev by_rank : List ℕ
by_rank = 70 ∷ 80 ∷ []

-- the first stands at rank 1
second_rank : of_rank 0 by_rank 2 ≡ 80
second_rank = refl

no_rank : of_rank 0 by_rank 0 ≡ 0
no_rank = refl

holds_seven : In 7 (9 ∷ 7 ∷ [])
holds_seven = inr (inl refl)

different : Distinct (9 ∷ 7 ∷ [])
different = omega arith

greater_ranks : above 2 (3 ∷ 1 ∷ 4 ∷ []) ≡ 2
greater_ranks = refl

smaller_ranks : below 2 (3 ∷ 1 ∷ 4 ∷ []) ≡ 1
smaller_ranks = refl

a_rank : IsRank 3 2
a_rank = omega arith

rising : Ordered ltb (1 ∷ 2 ∷ [])
rising = ((λ y i. elim i [ inl e ↦ rw e refl | inr j ↦ absurd j ]), ((λ y i. absurd i), tt))

-- ---- retiming; each flight is open from 1000 on, and follows 100 seconds after the one before

abbrev open_from_1000 : ℕ → ℕ → Option ℕ
open_from_1000 r t = Some (max t 1000)

first_open : IsFirstOpen (λ r t. 1000 ≤ t) open_from_1000
first_open = record {
  found = λ r t u e. let same : max t 1000 ≡ u = cc in (omega arith, omega arith);
  least = λ r t v o le. (max t 1000, refl, omega arith);
}

hundred_later : NeverEarlier (λ l t r. t + 100)
hundred_later = omega arith

-- ---- a landing trail, the latest first

abbrev trail : List Landing
trail = (1, 1100) ∷ (2, 1000) ∷ []

trail_latest : latest_landing trail ≡ (1, 1100)
trail_latest = refl

trail_ranks : ranks trail ≡ 1 ∷ 2 ∷ []
trail_ranks = refl

trail_landed : Landed (λ r t. 1000 ≤ t) (λ l t r. t + 100) trail
trail_landed = omega arith

trail_pair : pair_of (λ r t. t - 1000) trail ≡ (1100, 100)
trail_pair = refl

last_rank_none : last_rank [] ≡ 0
last_rank_none = refl

-- ---- pairs of a second and a cost

later_is_worse : NoWorse (1000, 5) (1010, 5)
later_is_worse = omega arith

test_no_worse : no_worse (1000, 5) (1010, 4) ≡ false
test_no_worse = refl

successor : next_pair open_from_1000 (λ l t r. t + 100) (λ r t. t - 1000) 2 (1000, 0) 1 ≡ Some (1100, 100)
successor = refl

delay_never_cheaper : NeverCheaper (λ r t. t - 1000)
delay_never_cheaper = omega arith

listed : InPairs (1010, 3) ((1000, 5) ∷ (1010, 3) ∷ [])
listed = inr (inl refl)

-- ---- lists of undominated pairs

added : add_pair (1005, 4) ((1010, 4) ∷ (1000, 5) ∷ []) ≡ (1005, 4) ∷ (1000, 5) ∷ []
added = refl

swept : sweep 100 ((1000, 5) ∷ (1005, 7) ∷ (1010, 3) ∷ []) ≡ (1000, 5) ∷ (1010, 3) ∷ []
swept = refl

staircase : Staircase ((1000, 5) ∷ (1010, 3) ∷ [])
staircase = grind arith

in_pair_order : InPairOrder ((1000, 5) ∷ (1000, 7) ∷ [])
in_pair_order = grind arith

covers_all : Covers ((1005, 4) ∷ (1010, 4) ∷ []) (add_pair (1005, 4) ((1010, 4) ∷ []))
covers_all = add_covers _ ((1010, 4) ∷ [])
