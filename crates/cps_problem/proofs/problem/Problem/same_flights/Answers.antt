use Rattle.std.proofs.Common.{◌≡◌, ℕ, ◌+◌, ◌<◌, ◌≤◌, Option, refl, arith, rules, tests}
use Rattle.std.specs.Prelude.{slice_get, unwrap_or, MatchOption}
use Rattle.std.specs.Bool.{⊤}
use Rattle.std.proofs.lemmas.Iterator.{first_from_Range}
use Rattle.landing_rules.specs.Problem.{Problem}
use Rattle.cps_problem.proofs.problem.Problem.same_flights.Goals as goal

-- the flights of rank k are equal
IsSameAt : Problem → Problem → ℕ → Type 0
IsSameAt p q k = (i : ℕ) → k ≡ i + 1 → slice_get p.flights i ≡ slice_get q.flights i

same_below : (p q : Problem) (end : ℕ) (o : Option ℕ)
    → MatchOption o ((k : ℕ) → 1 ≤ k → k < end → IsSameAt p q k) (λ r. (1 ≤ r) × (r < end) × ⊤
    × ((k : ℕ) → 1 ≤ k → k < r → IsSameAt p q k))
    → (k : ℕ) → 1 ≤ k → k < unwrap_or o end → IsSameAt p q k
same_below p q end o h = grind arith

pub returns-clause-same : goal.returns-clause-same
unfolding IsSameAt
returns-clause-same c = λ i below.
    same_below c.args.self.now c.args.other.now (c.min-n.result + 1) c.find.result
    (first_from_Range _ _ _ c.find.result (λ k. ⊤) (IsSameAt c.args.self.now c.args.other.now) c.find.ensures.ran
    (λ x q k. tt) (λ x q k. search (rules, tests)))
    (i + 1) (omega arith) (omega (arith, below, c.unwrap_or.ensures)) i refl
