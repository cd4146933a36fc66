-- Of the numbers up to the first flights that differ, the greatest up to which predecessors are the same.
use Rattle.std.proofs.Common.{◌≡◌, ℕ, ◌<◌, ◌≤◌, Bool, Option, Some, None, sym, subst, arith, rules, tests}
use Rattle.std.specs.Prelude.{IsTrue, ◌↔◌, MatchOption, unwrap_or}
use Rattle.landing_rules.specs.Problem.{Problem}
use Rattle.cps_problem.specs.FirstDifference.{HaveSameHead, HaveSameFlights, HaveSamePredecessors, IsWithinBoth}
use Rattle.cps_problem.specs.FirstDifference.{IsFirstDifference}
use Rattle.cps_theory.specs.laws.LastInRange.{last_in_range}
use Rattle.cps_problem.proofs.problem.Problem.first_difference.Goals as goal

module _ (p q : Problem) (most : ℕ) (from_one : 1 ≤ most) (within : IsWithinBoth p q most)
    (head : HaveSameHead p q) (flights : HaveSameFlights p q most)
    (greatest : (s : ℕ) → IsWithinBoth p q s → HaveSameFlights p q s → s ≤ most) where
  agreed : (o : Option ℕ) → MatchOption o ((k : ℕ) → 2 ≤ k → k ≤ most → HaveSamePredecessors p q k → ⊥)
      (λ r. (2 ≤ r) × (r ≤ most) × HaveSamePredecessors p q r × ((k : ℕ) → r < k → k ≤ most
      → HaveSamePredecessors p q k → ⊥)) → IsFirstDifference p q (unwrap_or o 1)
  agreed None none = grind arith
  agreed (Some r) last = grind arith

told : (b c : Bool) (P : Type 0) → b ≡ c → IsTrue c ↔ P → IsTrue b ↔ P
told b c P same is = subst (λ d. IsTrue d ↔ P) (sym same) is

pub returns : goal.returns
returns c =
    let p = c.args.self.now in
    let q = c.args.other.now in
    let most = c.same_flights-most in
    let last = last_in_range (HaveSamePredecessors p q) _
    (λ r b f k. (search (rules, tests), search (told, rules))) 2 most.result c.new.ensures.start
    c.new.ensures.end c.new.ensures.exhausted c.rev.ensures.runs c.find-agreed.result c.find-agreed.ensures.runs in
    subst (IsFirstDifference p q) (sym c.unwrap_or.ensures)
    (agreed p q most.result most.ensures.from_one most.ensures.within
    (search (rules, tests)) most.ensures.same most.ensures.greatest c.find-agreed.result last)
