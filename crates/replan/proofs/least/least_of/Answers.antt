use Rattle.std.proofs.Common.{arith}
use Rattle.replan.specs.Labels.{HoldsPairs}
use Rattle.extract_plan.specs.shared.PlannedOrder.{well_formed_planned}
use Rattle.replan.proofs.PlanLemmas.{none_feasible, least_is_best}
use Rattle.replan.specs.shared.LastPairs.{list_some}
use Rattle.replan.proofs.least.least_of.Goals as goal

pub least_place-requires : goal.least_place-requires
least_place-requires g c =
    let h : HoldsPairs c.args.problem.now c.last.inside.stage c.last.inside.labels =
    rw (← c.last.view_is) at c.requires.held in
    λ i inside. list_some _ _ _ h.held i (omega arith)

pub returns-in_err-place : goal.returns-in_err-place
returns-in_err-place g c =
    rw c.from_residual.ensures (none_feasible _ (well_formed_planned _ c.head-well_formed.ensures.well_formed) _ _
    (rw (← c.last.view_is) at c.requires.stage) (rw (← c.last.view_is) at c.requires.held) c.in_err-place.ensures)

pub value_there-requires-clause-some : goal.value_there-requires-clause-some
value_there-requires-clause-some g c =
    let h : HoldsPairs c.args.problem.now c.last.inside.stage c.last.inside.labels =
    rw (← c.last.view_is) at c.requires.held in
    let inside = c.in_ok-place.ensures.0 in
    list_some _ _ _ h.held _ (omega arith)

pub returns : goal.returns
returns g c =
    let h : HoldsPairs c.args.problem.now c.last.inside.stage c.last.inside.labels =
    rw (← c.last.view_is) at c.requires.held in
    let inside = c.in_ok-place.ensures.0 in
    let best = least_is_best _ (well_formed_planned _ c.head-well_formed.ensures.well_formed) _ _
    (rw (← c.last.view_is) at c.requires.stage) h _ c.in_ok-place.ensures (list_some _ _ _ h.held _ (omega arith)) in
    (best.0, best.1, rw c.value_there.ensures best.2)
