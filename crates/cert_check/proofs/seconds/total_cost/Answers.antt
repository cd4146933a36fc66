-- The costs of all ranks.
use Rattle.std.proofs.Common.{◌≤◌, ◌*◌, ◌+◌, ℕ, zero, suc, min, arith, ◌∙◌, rules, tests}
use Rattle.std.specs.Prelude.{sum_by}
use Rattle.std.specs.List.{range_with_len}
use Rattle.std.proofs.lemmas.Iterator.{YieldsList-from_map, YieldsList-from_range}
use Rattle.std.proofs.lemmas.Iterator.Consumers.{sum_by_from_yields_List, fits_by_from_yields_list}
use Rattle.std.proofs.lemmas.List.Sums.{sum_by-cons}
use Rattle.cps_base.specs.Limits.{dearest_landing}
use Rattle.cps_theory.specs.Feasible.{total}
use Rattle.cps_theory.specs.RankLists.{upto}
use Rattle.landing_joint.specs.RankedProblem.{cost_at}
use Rattle.cert_check.specs.Landings.{count, second}
use Rattle.cps_theory.specs.laws.RanksBelow.{ranks_folded}
use Rattle.cert_check.proofs.seconds.total_cost.Goals as goal

-- a cost, which is at most this
abbrev small : (ℕ → ℕ) → ℕ → ℕ
small cost r = min (cost r) dearest_landing

small_sum : (cost : ℕ → ℕ) (n a : ℕ) → sum_by (small cost) (range_with_len a n) ≤ dearest_landing * n
small_sum cost zero a = omega arith
small_sum cost (suc n) a =
    omega (arith, sum_by-cons (small cost) a (range_with_len (a + 1) n), small_sum cost n (a + 1))

pub sum-requires-clause-fits : goal.sum-requires-clause-fits
sum-requires-clause-fits c =
    let n = count c.args.problem.now in
    let cost = λ (r : ℕ). cost_at c.args.problem.now r (second c.args.problem.now c.args.landings.now r) in
    fits_by_from_yields_list (small cost) _ c.map.result _
    (YieldsList-from_map _ (small cost)
    (YieldsList-from_range 1 _ n c.map.ensures.source (omega (arith, c.len.ensures.value))) c.map.ensures.closure
    (λ x r q k. search (rules, tests)))
    (omega (arith, small_sum cost n 1, c.len.ensures.value, c.len.type_inv))

pub returns : goal.returns
returns c =
    let n = count c.args.problem.now in
    let cost = λ (r : ℕ). cost_at c.args.problem.now r (second c.args.problem.now c.args.landings.now r) in
    let ranks = YieldsList-from_range 1 _ n c.map.ensures.source (omega (arith, c.len.ensures.value)) in
    record {
      value = (sum_by_from_yields_List cost _ c.map.result _ c.sum.ensures.ran
          (YieldsList-from_map _ cost ranks c.map.ensures.closure (λ x r q k. search (rules, tests)))) ∙ ranks_folded
          (λ a r. a + cost r) (λ n. total cost (upto n)) (λ n. omega arith) n;
      small = omega (
        arith,
        (sum_by_from_yields_List (small cost) _ c.map.result _ c.sum.ensures.ran
            (YieldsList-from_map _ (small cost) ranks c.map.ensures.closure (λ x r q k. search (rules, tests)))),
        small_sum cost n 1,
      );
    }
