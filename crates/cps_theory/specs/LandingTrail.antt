-- A landing trail: the landings of a prefix, the latest first, with their ranks, their cost and their last second.
use Rattle.std.specs.Prelude.{ℕ, ◌+◌, ◌≤◌, List, [], ◌∷◌}
use Rattle.cps_theory.specs.Separation.{Landing}
use Rattle.cps_theory.specs.Labels.{Pair}

-- the latest landing; before the first it is no landing, and has rank 0
abbrev pub latest_landing : List Landing → Landing
latest_landing [] = (0, 0)
latest_landing (x ∷ xs) = x

-- its ranks, latest first
abbrev pub ranks : List Landing → List ℕ
ranks [] = []
ranks (x ∷ xs) = x.0 ∷ ranks xs

-- each second is open, and not before what the landing before it allows; `after 0` is what the start allows
abbrev pub Landed : (ℕ → ℕ → Type 0) → (ℕ → ℕ → ℕ → ℕ) → List Landing → Type 0
Landed Open after [] = Unit {0}
Landed Open after (x ∷ xs) = Open x.0 x.1 × (after (latest_landing xs).0 (latest_landing xs).1 x.0 ≤ x.1)
    × Landed Open after xs

-- what the landings cost together
abbrev pub cost_of : (ℕ → ℕ → ℕ) → List Landing → ℕ
cost_of cost [] = 0
cost_of cost (x ∷ xs) = cost_of cost xs + cost x.0 x.1

-- its last second, and what it costs
abbrev pub pair_of : (ℕ → ℕ → ℕ) → List Landing → Pair
pair_of cost xs = ((latest_landing xs).1, cost_of cost xs)

-- the rank of the latest of a prefix, 0 before the first
abbrev pub last_rank : List ℕ → ℕ
last_rank [] = 0
last_rank (r ∷ rs) = r
