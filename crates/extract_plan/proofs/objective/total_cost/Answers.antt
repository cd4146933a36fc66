-- The costs of all ranks.
use Rattle.std.proofs.Common.{◌≤◌, ◌*◌, ◌+◌, ℕ, zero, suc, min, arith, length, ◌∙◌, rules, tests}
use Rattle.std.specs.Prelude.{sum_by}
use Rattle.std.specs.List.{range_with_len}
use Rattle.std.proofs.lemmas.Iterator.{YieldsList-from_map, YieldsList-from_range}
use Rattle.std.proofs.lemmas.Iterator.Consumers.{sum_by_from_yields_List, fits_by_from_yields_list}
use Rattle.std.proofs.lemmas.List.Sums.{sum_by-cons}
use Rattle.cps_base.specs.Limits.{dearest_landing}
use Rattle.cps_theory.specs.Feasible.{total}
use Rattle.cps_theory.specs.RankLists.{of_rank, upto}
use Rattle.cps_theory.specs.laws.RanksBelow.{ranks_folded}
use Rattle.landing_joint.specs.RankedProblem.{cost_at}
use Rattle.extract_plan.proofs.objective.total_cost.Goals as goal

-- a cost, which is no more than that of a second of the two days
abbrev small : (ℕ → ℕ) → ℕ → ℕ
small cost r = min (cost r) dearest_landing

small_sum : (cost : ℕ → ℕ) (n a : ℕ) → sum_by (small cost) (range_with_len a n) ≤ dearest_landing * n
small_sum cost zero a = omega arith
small_sum cost (suc n) a =
    omega (arith, sum_by-cons (small cost) a (range_with_len (a + 1) n), small_sum cost n (a + 1))

pub sum-requires-clause-fits : goal.sum-requires-clause-fits
sum-requires-clause-fits c =
    let n = length c.args.problem.now.flights in
    let cost = λ (r : ℕ). cost_at c.args.problem.now r (of_rank 0 c.args.schedule.now r) in
    let ranks = YieldsList-from_range 1 _ n c.map.ensures.source (omega (arith, c.len.ensures.value)) in
    fits_by_from_yields_list (small cost) _ c.map.result _
    (YieldsList-from_map _ (small cost) ranks c.map.ensures.closure (λ x r q k. search (rules, tests)))
    (omega (arith, small_sum cost n 1, c.len.ensures.value, c.len.type_inv))

pub returns : goal.returns
returns c =
    let n = length c.args.problem.now.flights in
    let cost = λ (r : ℕ). cost_at c.args.problem.now r _ in
    let ranks = YieldsList-from_range 1 _ n c.map.ensures.source (omega (arith, c.len.ensures.value)) in
    let whole = sum_by_from_yields_List cost _ c.map.result _ c.sum.ensures.ran
    (YieldsList-from_map _ cost ranks c.map.ensures.closure (λ x r q k. search (rules, tests))) in
    let low = sum_by_from_yields_List (small cost) _ c.map.result _ c.sum.ensures.ran
    (YieldsList-from_map _ (small cost) ranks c.map.ensures.closure (λ x r q k. search (rules, tests))) in
    record {
      value = whole ∙ ranks_folded (λ a r. a + cost r) (λ n. total cost (upto n)) (λ n. omega arith) n;
      small = omega (arith, low, small_sum cost n 1);
    }
