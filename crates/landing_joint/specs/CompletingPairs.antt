-- What may still follow a prefix of a landing order: the pairs of a last second and a cost that complete its node, and
-- orders of least choices. Prefixes and their landings stand latest first.
use Rattle.std.specs.Prelude.{◌≡◌, ℕ, ◌+◌, ◌-◌, ◌≤◌, ◌↔◌, Bool, true, List, [], ◌∷◌, length, map, Some, nat_le}
use Rattle.landing_rules.specs.declared.objective.Objective.{Objective}
use Rattle.landing_rules.specs.declared.objective.Objective.TheVariants.{Makespan, Delay}
use Rattle.landing_rules.specs.Flights.{Schedule}
use Rattle.landing_rules.specs.Problem.{Problem, IsFeasibleList, list_objective}
use Rattle.cps_theory.specs.RankLists.{In, numbers_from}
use Rattle.cps_theory.specs.Separation.{Landing}
use Rattle.cps_theory.specs.LandingTrail.{cost_of, last_rank, latest_landing, ranks}
use Rattle.cps_theory.specs.Labels.{Pair}
use Rattle.cps_theory.specs.LegalPrefix.{Legal}
use Rattle.cps_theory.specs.Feasible.{next_from, second_in}
use Rattle.cps_theory.specs.ProblemNetwork.{LandedIn}
use Rattle.cps_theory.specs.CompletingPairs.{KeptCompleting, NoEarlierNoDearer}
use Rattle.landing_joint.specs.RankedProblem.{ranked, cost_at, landing_after}

-- v is the least objective of a feasible list
pub record IsLeastObjective (p : Problem) (v : ℕ) : Type 0 where
  pub attained : (t : Schedule) × IsFeasibleList p t × (list_objective p t ≡ v)
  pub least : (t : Schedule) → IsFeasibleList p t → v ≤ list_objective p t

-- for the makespan no second is above the value
abbrev pub low_by : Objective → ℕ → ℕ → Bool
low_by Makespan v t = nat_le t v
low_by Delay v t = true

-- what the value leaves to the delays of the waiting flights
abbrev pub budget_by : Objective → Problem → ℕ → ℕ
budget_by Makespan p v = 0
budget_by Delay p v = v - p.base

abbrev pub is_low : Problem → ℕ → ℕ → Bool
is_low p v t = low_by p.objective v t

abbrev pub budget_of : Problem → ℕ → ℕ
budget_of p v = budget_by p.objective p v

abbrev pub IsLegal : Problem → List ℕ → Type 0
IsLegal p rs = Legal (ranked p).rules rs

-- ---- completing pairs

-- two prefixes are of one node: a stage, the placed ranks and the latest rank
pub record AreOneNode (rs os : List ℕ) : Type 0 where
  pub stage : length rs ≡ length os
  pub placed : (x : ℕ) → In x rs ↔ In x os
  pub latest : last_rank rs ≡ last_rank os

-- some legal prefix of the node of rs can land its last flight at b or before
pub record CanLandBy (p : Problem) (rs : List ℕ) (b : ℕ) : Type 0 where
  pub landings : List Landing
  pub legal : IsLegal p (ranks landings)
  pub landed : LandedIn (ranked p) landings
  pub one_node : AreOneNode (ranks landings) rs
  pub by : (latest_landing landings).1 ≤ b

-- behind a prefix whose last flight lands at b, these landings, the earliest first, end a legal order of all flights
abbrev pub EndsOrder : Problem → ℕ → List ℕ → ℕ → List Landing → Type 0
EndsOrder p v rs b [] = length rs ≡ length p.flights
EndsOrder p v rs b (y ∷ ys) = IsLegal p (y.0 ∷ rs) × ((ranked p).is_open y.0 y.1 ≡ true)
    × (next_from (ranked p) (last_rank rs) b y.0 ≤ y.1) × (is_low p v y.1 ≡ true) × EndsOrder p v (y.0 ∷ rs) y.1 ys

-- with its last flight at the pair's second the node can be ended, and the flights not placed cost the pair's cost
-- together
pub record IsCompletingPair (p : Problem) (v : ℕ) (rs : List ℕ) (q : Pair) : Type 0 where
  pub opened : (ranked p).is_open (last_rank rs) q.0 ≡ true
  pub reached : CanLandBy p rs q.0
  pub low : is_low p v q.0 ≡ true
  pub rest : List Landing
  pub ends : EndsOrder p v rs q.0 rest
  pub cost_is : cost_of (cost_at p) rest ≡ q.1

-- of each prefix that can land, the kept pairs complete its node, and each pair that does has a kept one at least as
-- late and at most as dear
abbrev pub AreCompletingPairs : Problem → ℕ → (List ℕ → Pair → Type 0) → Type 0
AreCompletingPairs p v Keeps = (x : Landing) (xs : List Landing) → IsLegal p (ranks (x ∷ xs))
    → LandedIn (ranked p) (x ∷ xs) → KeptCompleting (IsCompletingPair p v (ranks (x ∷ xs))) (Keeps (ranks (x ∷ xs)))

-- a pair of a prefix by its successors: at an open second by which its node can land, with a next rank at its first
-- second behind it, and a kept pair of that rank's node for which this second is not too late
pub record IsSuccessorPair (p : Problem) (v : ℕ) (Keeps : List ℕ → Pair → Type 0) (rs : List ℕ)
    (q : Pair) : Type 0 where
  pub opened : (ranked p).is_open (last_rank rs) q.0 ≡ true
  pub reached : CanLandBy p rs q.0
  pub low : is_low p v q.0 ≡ true
  pub rank : ℕ
  pub second : ℕ
  pub pair : Pair
  pub legal : IsLegal p (rank ∷ rs)
  pub lands : landing_after p (last_rank rs) q.0 rank ≡ Some second
  pub kept : Keeps (rank ∷ rs) pair
  pub in_time : second ≤ pair.0
  pub cost_is : cost_at p rank second + pair.1 ≡ q.1

-- a pair of a whole prefix: at an open second by which its node can land nothing is left to cost
pub record IsLastPair (p : Problem) (v : ℕ) (rs : List ℕ) (q : Pair) : Type 0 where
  pub opened : (ranked p).is_open (last_rank rs) q.0 ≡ true
  pub reached : CanLandBy p rs q.0
  pub low : is_low p v q.0 ≡ true
  pub cost_is : q.1 ≡ 0

-- these are some of the pairs, and each has one of these at least as late and at most as dear
pub record Cover (IsOne New : Pair → Type 0) : Type 0 where
  pub are : (q : Pair) → New q → IsOne q
  pub cover : (q : Pair) → IsOne q → (o : Pair) × New o × NoEarlierNoDearer o q

-- ---- least choices

-- rank r may land next, first at t, and a kept pair says that the order can still be ended at the value
pub record CanChoose (p : Problem) (v : ℕ) (Keeps : List ℕ → Pair → Type 0) (xs : List Landing) (r t : ℕ) : Type 0 where
  pub legal : IsLegal p (r ∷ ranks xs)
  pub lands : landing_after p (latest_landing xs).0 (latest_landing xs).1 r ≡ Some t
  pub pair : Pair
  pub kept : Keeps (r ∷ ranks xs) pair
  pub in_time : t ≤ pair.0
  pub cheap : cost_of (cost_at p) xs + cost_at p r t + pair.1 ≤ budget_of p v

-- each landing is that of the least rank that can be chosen behind those before it
abbrev pub AreLeastChoices : Problem → ℕ → (List ℕ → Pair → Type 0) → List Landing → Type 0
AreLeastChoices p v Keeps [] = Unit {0}
AreLeastChoices p v Keeps (x ∷ xs) = CanChoose p v Keeps xs x.0 x.1 × ((r t : ℕ) → CanChoose p v Keeps xs r t → x.0 ≤ r)
    × AreLeastChoices p v Keeps xs

-- the seconds of landings, by rank
abbrev pub seconds_by_rank : Problem → List Landing → Schedule
seconds_by_rank p xs = map (second_in xs) (numbers_from 1 (length p.flights))
