-- Where two problems agree up to a rank, they agree on the rules of an order, open seconds, separations and costs below
-- it.
use Rattle.std.proofs.Common.{◌≡◌, ℕ, zero, suc, ◌+◌, ◌-◌, ◌<◌, max, length, true, ap₂, ◌∙◌, arith}
use Rattle.std.proofs.lemmas.Option.{slice_get-get_or, get_or_from_slice_get}
use Rattle.landing_rules.specs.Problem.{Problem, Waiting, AreBetweenRanks}
use Rattle.cps_theory.specs.RankLists.{of_rank}
use Rattle.cps_theory.specs.Agreement.{AgreeBelow, SameLandings}
use Rattle.cps_theory.specs.Feasible.{next_from}
use Rattle.landing_joint.specs.RankedProblem.{no_waiting, ranked, start_at, apart_at, cost_at}
use Rattle.cps_problem.specs.FirstDifference.{AgreeUpTo, IsWithinBoth}

module _ (p q : Problem) (d : ℕ) (within : IsWithinBoth p q d) (agree : AgreeUpTo p q d) where
  -- the flights by rank
  pub same_flight : (r : ℕ) → r < d → of_rank no_waiting p.flights r ≡ of_rank no_waiting q.flights r
  same_flight r lt = grind (arith, slice_get-get_or, get_or_from_slice_get)

  -- the rules of an order
  pub agree_below : AreBetweenRanks (length q.flights) q.pairs → AgreeBelow d (ranked p).rules (ranked q).rules
  agree_below between = record {
    same_most = agree.head.k;
    there = (let a = within.1 in omega arith);
    same_back = λ r lt. ap₂ (λ (k : ℕ) (w : Waiting). k - w.passed) agree.head.k (same_flight r lt);
    same_before = λ a r la lr b. let o = between a r b in (agree.predecessors r o.2 lr).below a o.0 la ∙ b;
    same_above = λ a r above lr b. let o = between a r b in (agree.predecessors r o.2 lr).from.1 (a, above, b);
  }

  same_start : (r : ℕ) → r < d → start_at p r ≡ start_at q r
  same_start r lt = grind (arith, ap₂, same_flight)

  same_apart : (l r : ℕ) → l < d → r < d → apart_at p l r ≡ apart_at q l r
  same_apart l r a b = grind (arith, ap₂, same_flight)

  same_next : (l t r : ℕ) → l < d → r < d → next_from (ranked p) l t r ≡ next_from (ranked q) l t r
  same_next zero t r a b = same_start r b
  same_next (suc l) t r a b = ap₂ (λ (s u : ℕ). max s (t + u)) (same_start r b) (same_apart (suc l) r a b)

  -- open seconds, what separates, and costs
  pub same_landings : SameLandings d (λ r t. (ranked p).is_open r t ≡ true) (λ r t. (ranked q).is_open r t ≡ true)
      (next_from (ranked p)) (next_from (ranked q)) (cost_at p) (cost_at q)
  same_landings = grind (arith, same_flight, same_next, ap₂)
