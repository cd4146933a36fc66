use Rattle.std.proofs.Common.{◌+◌, ◌-◌, ◌*◌, ◌≤◌, length, sym, ◌∙◌, arith}
use Rattle.cps_base.specs.Limits.{dearest_landing}
use Rattle.first_best.proofs.WayLemmas.{too_late, way_cost}
use Rattle.first_best.proofs.ways.cost_by.Goals as goal

pub returns-in_err-rest-clause-least : goal.returns-in_err-rest-clause-least
returns-in_err-rest-clause-least c =
    rw (c.from_residual-in_err-rest.ensures, sym c.list.ensures, sym c.node-after.ensures) (too_late _ _ _ _ _ _
    (sym c.landing_after.ensures.value ∙ c.in_ok-landing.was) c.in_err-rest.ensures)

-- the cost and the rest, which is that of a pair in reach
in_reach : (c : goal.After-cost)
    → c.cost.result + c.in_ok-rest.rest ≤ dearest_landing * (length c.args.problem.now.flights - c.args.stage)
in_reach c =
    let rest = c.in_ok-rest.ensures.0 in
    let left = length c.args.problem.now.flights - c.args.stage - 1 in
    let small = (c.requires.next.in_reach c.args.way left (omega arith) rest.0 (rw c.list.ensures at rest.1)).1 in
    let is = rest.3 in
    omega (arith, small, is, c.cost.ensures.small, c.in_ok-landing.ensures.in_days, c.requires.stage)

pub overflow_add-result : goal.overflow_add-result
overflow_add-result c = (let small = in_reach c in omega arith)

pub returns-clause-least : goal.returns-clause-least
returns-clause-least c = rw (c.cost.ensures.value, sym c.list.ensures, sym c.node-after.ensures)
    (way_cost _ _ _ _ _ _ (sym c.landing_after.ensures.value ∙ c.in_ok-landing.was) _ c.in_ok-rest.ensures)

pub returns-clause-small : goal.returns-clause-small
returns-clause-small c = in_reach c
