-- A problem by rank, and its feasible, tight and best schedules, said pair by pair over whole maps from ranks to
-- seconds.
use Rattle.std.specs.Prelude.{◌≡◌, ◌≢◌, ℕ, zero, suc, ◌+◌, ◌<◌, ◌≤◌, List, [], ◌∷◌, length, count_by, nat_lt, Bool}
use Rattle.std.specs.Prelude.{true, max, Option, Some, option_and_then, option_map}
use Rattle.std.proofs.Common.{cond, eqb}
use Rattle.cps_theory.specs.RankLists.{IsRank, upto}
use Rattle.cps_theory.specs.Separation.{Landing}
use Rattle.cps_theory.specs.LandingTrail.{Landed, latest_landing}
use Rattle.cps_theory.specs.LegalPrefix.{Legal, OrderRules}

-- the waiting flights by rank: the rules of their order, where each may land, from when on, and how far apart
pub record RankedProblem : Type 0 where
  pub rules : OrderRules
  pub is_open : ℕ → ℕ → Bool
  pub start : ℕ → ℕ
  pub apart : ℕ → ℕ → ℕ

-- how many of the ranks up to n land earlier than r
abbrev pub earlier : ℕ → (ℕ → ℕ) → ℕ → ℕ
earlier n t r = count_by (λ q. nat_lt (t q) (t r)) (upto n)

-- feasible: each rank lands at an open second, not before its start, any two are separated, each behind its
-- predecessors, and each near its place
pub record Feasible (p : RankedProblem) (t : ℕ → ℕ) : Type 0 where
  pub opened : (r : ℕ) → IsRank p.rules.count r → p.is_open r (t r) ≡ true
  pub started : (r : ℕ) → IsRank p.rules.count r → p.start r ≤ t r
  pub separated : (f g : ℕ) → IsRank p.rules.count f → IsRank p.rules.count g → f ≢ g → t f ≤ t g
      → t f + p.apart f g ≤ t g
  pub in_order : (f g : ℕ) → IsRank p.rules.count f → IsRank p.rules.count g → p.rules.before f g ≡ true → t f < t g
  pub not_early : (r : ℕ) → IsRank p.rules.count r → r ≤ suc (earlier p.rules.count t r) + p.rules.most
  pub not_late : (r : ℕ) → IsRank p.rules.count r → suc (earlier p.rules.count t r) ≤ r + p.rules.back r

-- what is asked of the table and of the precedence alone
pub record SoundProblem (p : RankedProblem) : Type 0 where
  pub triangle : (a b c : ℕ) → p.apart a c ≤ p.apart a b + p.apart b c
  pub positive : (a b : ℕ) → 1 ≤ p.apart a b
  pub ranked : (a r : ℕ) → p.rules.before a r ≡ true → IsRank p.rules.count a
  pub low : (r : ℕ) → p.rules.back r ≤ p.rules.most

-- the earliest second for r, after `l` at `u`, or at the start
abbrev pub next_from : RankedProblem → ℕ → ℕ → ℕ → ℕ
next_from p zero u r = p.start r
next_from p (suc l) u r = max (p.start r) (u + p.apart (suc l) r)

-- the landings of an order, by the seconds of its ranks
abbrev pub at_seconds : (ℕ → ℕ) → List ℕ → List Landing
at_seconds t [] = []
at_seconds t (r ∷ rs) = (r, t r) ∷ at_seconds t rs

-- the order, latest first, is legal, has each flight, and lands at these seconds
pub record LandsAllRanks (p : RankedProblem) (t : ℕ → ℕ) (rs : List ℕ) : Type 0 where
  pub legal : Legal p.rules rs
  pub whole : length rs ≡ p.rules.count
  pub landed : Landed (λ r u. p.is_open r u ≡ true) (next_from p) (at_seconds t rs)

-- each flight of the order, latest first, at its first open second
abbrev pub earliest : (ℕ → ℕ → Option ℕ) → (ℕ → ℕ → ℕ → ℕ) → List ℕ → Option (List Landing)
earliest first after [] = Some []
earliest first after (r ∷ rs) = option_and_then
    (λ xs. option_map (λ t. (r, t) ∷ xs) (first r (after (latest_landing xs).0 (latest_landing xs).1 r)))
    (earliest first after rs)

-- the second of a rank in a list of landings
abbrev pub second_in : List Landing → ℕ → ℕ
second_in [] r = 0
second_in (x ∷ xs) r = cond (eqb r x.0) x.1 (second_in xs r)

-- the greatest second of the ranks up to n
abbrev pub greatest : (ℕ → ℕ) → ℕ → ℕ
greatest t zero = 0
greatest t (suc n) = max (t (suc n)) (greatest t n)

-- what f adds up to over the list
abbrev pub total : (ℕ → ℕ) → List ℕ → ℕ
total f [] = 0
total f (r ∷ rs) = f r + total f rs

-- the greatest second of a map, and what it costs
abbrev pub second_and_cost : (ℕ → ℕ → ℕ) → ℕ → (ℕ → ℕ) → ℕ × ℕ
second_and_cost cost n t = (greatest t n, total (λ r. cost r (t r)) (upto n))

-- two maps land the ranks up to n in one order
abbrev pub SameOrder : ℕ → (ℕ → ℕ) → (ℕ → ℕ) → Type 0
SameOrder n t u = (f g : ℕ) → IsRank n f → IsRank n g → (t f < t g → u f < u g) × (u f < u g → t f < t g)

-- feasible, and no feasible schedule in the same order lands any flight earlier
pub record Tight (p : RankedProblem) (t : ℕ → ℕ) : Type 0 where
  pub feasible : Feasible p t
  pub least : (u : ℕ → ℕ) → Feasible p u → SameOrder p.rules.count t u → (r : ℕ) → IsRank p.rules.count r → t r ≤ u r

-- feasible, and no feasible schedule has a smaller value
pub record IsBest (p : RankedProblem) (value : (ℕ → ℕ) → ℕ) (t : ℕ → ℕ) : Type 0 where
  pub feasible : Feasible p t
  pub least : (u : ℕ → ℕ) → Feasible p u → value t ≤ value u
