-- The objective of a whole situation, with its frozen part.
use Rattle.std.specs.Prelude.{◌≡◌, ℕ, ◌≤◌, ◌+◌, max, List, [], ◌∷◌, sum_by}
use Rattle.cps_theory.specs.RankLists.{upto}
use Rattle.cps_theory.specs.Feasible.{RankedProblem, greatest, total}
use Rattle.cps_theory.specs.NumberedSituation.{NumberedSituation, active}

-- the greatest second of these flights, 0 with none
abbrev pub latest_in : (ℕ → ℕ) → List ℕ → ℕ
latest_in t [] = 0
latest_in t (f ∷ fs) = max (t f) (latest_in t fs)

-- the objective of a situation is that of its problem, with the frozen part
pub record SameObjectives (s : NumberedSituation) (p : RankedProblem) (at : ℕ → ℕ) (t : ℕ → ℕ) : Type 0 where
  pub none_waits : p.rules.count ≡ 0 → latest_in t (active s) ≡ latest_in s.frozen_at s.frozen
  pub some_wait : 1 ≤ p.rules.count → latest_in t (active s) ≡ greatest (λ r. t (at r)) p.rules.count
  pub delays : (cost : ℕ → ℕ → ℕ) → sum_by (λ f. cost f (t f)) (active s) ≡ sum_by
      (λ f. cost f (s.frozen_at f)) s.frozen + total (λ r. cost (at r) (t (at r))) (upto p.rules.count)
