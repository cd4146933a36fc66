-- The objective of a whole situation is that of its problem, with the part of the frozen flights.
use Rattle.std.proofs.lemmas.Grind.{common_steps}
use Rattle.std.proofs.Common.{◌≡◌, ℕ, ◌+◌, ◌≤◌, inl, inr, List, [], ◌∷◌, ◌++◌, sum_by, arith, refl, ap}
use Rattle.std.proofs.Common.{le_antisymm, zero-le}
use Rattle.std.proofs.lemmas.List.Sums.{sum_by-cons}
use Rattle.cps_theory.specs.RankLists.{In, IsRank}
use Rattle.cps_theory.specs.Feasible.{RankedProblem, greatest}
use Rattle.cps_theory.specs.NumberedSituation.{FeasibleIn, NumberedSituation, ProblemOf, SoundSituation, active}
use Rattle.cps_theory.specs.Objectives.{SameObjectives, latest_in}
use Rattle.cps_theory.specs.laws.Members.{in_append, append_in}
use Rattle.cps_theory.specs.laws.ProblemOfSituation.{cost_is}
use Rattle.cps_theory.specs.laws.RanksBelow.{at_most_greatest, greatest_least}

pub latest_bound : (t : ℕ → ℕ) (fs : List ℕ) (m : ℕ) → ((f : ℕ) → In f fs → t f ≤ m) → latest_in t fs ≤ m
latest_bound t [] m h = zero-le
latest_bound t (f ∷ fs) m h = let a = h f (inl refl) in let b = latest_bound t fs m (λ x i. h x (inr i)) in omega arith

pub latest_at : (t : ℕ → ℕ) (fs : List ℕ) (f : ℕ) → In f fs → t f ≤ latest_in t fs
latest_at t [] f i = absurd i
latest_at t (x ∷ fs) f i = grind (arith, latest_at t fs)

pub sum_append : (g : ℕ → ℕ) (xs ys : List ℕ) → sum_by g (xs ++ ys) ≡ sum_by g xs + sum_by g ys
sum_append g xs ys = grind (arith, common_steps, sum_by-cons)

pub sum_agree : (g h : ℕ → ℕ) (xs : List ℕ) → ((x : ℕ) → In x xs → g x ≡ h x) → sum_by g xs ≡ sum_by h xs
sum_agree g h [] e = refl
sum_agree g h (x ∷ xs) e = grind (arith, sum_by-cons, sum_agree g h xs)

pub same_objectives : (s : NumberedSituation) (p : RankedProblem) (at : ℕ → ℕ) → SoundSituation s
    → ProblemOf s p at → (t : ℕ → ℕ) → FeasibleIn s t → SameObjectives s p at t
same_objectives s p at sound of t f = record {
  none_waits = λ none. le_antisymm
      (latest_bound t (active s) (latest_in s.frozen_at s.frozen) (λ x i. elim (in_append x s.frozen s.waiting i) [
        | inl j ↦ (let e = f.kept x j in let a = latest_at s.frozen_at s.frozen x j in omega arith)
        | inr j ↦ absurd (let w = of.at_all x j in let a = w.1.0 in let b = w.1.1 in omega arith)
      ])) (latest_bound s.frozen_at s.frozen (latest_in t (active s)) (λ x j. let e = f.kept x j in let a =
      latest_at t (active s) x (append_in x s.frozen s.waiting (inl j)) in omega arith));
  some_wait = λ some. le_antisymm (latest_bound t (active s) (greatest (λ r. t (at r)) p.rules.count)
      (λ x i. elim (in_append x s.frozen s.waiting i) [
        | inl j ↦
            (let e = f.kept x j in
            let one : IsRank p.rules.count 1 = omega arith in
            let h = f.behind (at 1) (of.at_in 1 one) in
            let a = at_most_greatest (λ r. t (at r)) p.rules.count 1 one in
            omega arith)
        | inr j ↦ (let w = of.at_all x j in let a = at_most_greatest (λ r. t (at r)) p.rules.count w.0 w.1 in let e =
            ap t w.2 in omega arith)
      ])) (greatest_least (λ r. t (at r)) p.rules.count (latest_in t (active s))
      (λ r q. latest_at t (active s) (at r) (append_in (at r) s.frozen s.waiting (inr (of.at_in r q)))));
  delays = grind (arith, sum_append, sum_agree, cost_is);
}
