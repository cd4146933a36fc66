-- Examples of schedules: two flights that may land from 1000 on, 60 seconds apart, and their feasible, tight, best and
-- first best schedules.
use Rattle.std.proofs.Common.{◌≡◌, ℕ, zero, suc, ◌-◌, [], ◌∷◌, Option, Some, leb, max}
use Rattle.std.proofs.Common.{refl, arith}
use Rattle.std.proofs.lemmas.Bool.{cases_lt, false≢true}
use Rattle.cps_theory.specs.RankLists.{IsRank}
use Rattle.cps_theory.specs.Feasible.{Feasible, IsBest, RankedProblem, SameOrder, SoundProblem, Tight, at_seconds}
use Rattle.cps_theory.specs.Feasible.{earlier, earliest, greatest, next_from, second_and_cost, second_in, total}
use Rattle.cps_theory.proofs.NodeExamples.{two}

abbrev pub pair_of_flights : RankedProblem
pair_of_flights = record { rules = two; is_open = λ r u. leb 1000 u; start = λ r. 1000; apart = λ q r. 60 }

-- rank 1 lands at 1000, rank 2 at 1060
abbrev pub in_rank_order : ℕ → ℕ
in_rank_order zero = 0
in_rank_order (suc zero) = 1000
in_rank_order (suc (suc r)) = 1060

each_of_two : (P : ℕ → Type 0) → P 1 → P 2 → (r : ℕ) → IsRank 2 r → P r
each_of_two P a b r i = grind arith

feasible_two : Feasible pair_of_flights in_rank_order
feasible_two = grind (arith, each_of_two, false≢true)

sound_two : SoundProblem pair_of_flights
sound_two = omega (arith, false≢true)

first_rank : IsRank 2 1
first_rank = omega arith

second_rank : IsRank 2 2
second_rank = omega arith

-- no feasible schedule in rank order lands either earlier
tight_two : Tight pair_of_flights in_rank_order
tight_two = grind (arith, feasible_two, first_rank, second_rank, each_of_two)

-- and no feasible schedule ends before 1060
best_two : IsBest pair_of_flights (λ t. greatest t 2) in_rank_order
best_two = grind (arith, feasible_two, cases_lt, first_rank, second_rank)

seconds_by_rank : at_seconds in_rank_order (2 ∷ 1 ∷ []) ≡ (2, 1060) ∷ (1, 1000) ∷ []
seconds_by_rank = refl

second_of_one : second_in ((2, 1060) ∷ (1, 1000) ∷ []) 1 ≡ 1000
second_of_one = refl

next_of_start : next_from pair_of_flights 0 0 1 ≡ 1000
next_of_start = refl

next_of_one : next_from pair_of_flights 1 1000 2 ≡ 1060
next_of_one = refl

-- each flight at the first second from 1000 on that the one before it allows
abbrev first : ℕ → ℕ → Option ℕ
first r t = Some (max t 1000)

earliest_two : earliest first (next_from pair_of_flights) (2 ∷ 1 ∷ []) ≡ Some ((2, 1060) ∷ (1, 1000) ∷ [])
earliest_two = refl

earlier_than_two : earlier 2 in_rank_order 2 ≡ 1
earlier_than_two = refl

total_of_two : total (λ r. in_rank_order r - 1000) (2 ∷ 1 ∷ []) ≡ 60
total_of_two = refl

pair_of_two : second_and_cost (λ r t. t - 1000) 2 in_rank_order ≡ (1060, 60)
pair_of_two = refl

same_order : SameOrder 2 in_rank_order in_rank_order
same_order = omega arith
