use Rattle.std.proofs.Common.{◌≡◌, length, rules, arith, ap, ◌∙◌, refl}
use Rattle.std.proofs.lemmas.List.{length-replicate}
use Rattle.std.proofs.lemmas.Grind.{common_steps}
use Rattle.extract_plan.specs.shared.PlannedOrder.{well_formed_planned}
use Rattle.replan.proofs.StageLemmas.{last_read}
use Rattle.replan.proofs.PlanLemmas.{none_feasible, no_more, order_is_whole, order_lands, plan_best}
use Rattle.replan.proofs.plan.schedule_of.Goals as goal

pub least_place-requires : goal.least_place-requires
least_place-requires g c =
    (last_read _ _ c.requires.held (omega arith) _ _ _ c.len-n.ensures.value c.last.view_is c.index-kept-n.is).some

pub returns-in-None : goal.returns-in-None
returns-in-None g c =
    let l = last_read _ _ c.requires.held (omega arith) _ _ _ c.len-n.ensures.value c.last.view_is c.index-kept-n.is in
    none_feasible _ (well_formed_planned _ c.len-n.ensures.well_formed) _ _ l.number l.held c.in-None.ensures

pub trace-requires : goal.trace-requires
trace-requires g c =
    let l = last_read _ _ c.requires.held (omega arith) _ _ _ c.len-n.ensures.value c.last.view_is c.index-kept-n.is in
    let inside = c.in-Some.ensures.0 in
    let room : length c.deref_mut.result.now ≡ length c.args.problem.now.flights = omega
    (arith, c.in_ok-order-in-Some.ensures.len) in
    (search rules, (search rules, (c.requires.held, (c.requires.whole, (omega arith, room)))))

pub retime-is_landed-requires-clause-order : goal.retime-is_landed-requires-clause-order
retime-is_landed-requires-clause-order g c =
    let is : c.as_slice.result.now ≡ c.trace.new.order = grind (arith, common_steps) in
    let room : length c.as_slice.result.now ≡ length c.args.problem.now.flights =
    omega (arith, ap length is, c.in_ok-order-in-Some.ensures.len) in
    let lands = rw (← is) at c.trace.ensures.lands in
    let planned = well_formed_planned _ c.len-n.ensures.well_formed in
    order_is_whole _ planned _ _ room lands

pub prove-unreachable-requires : goal.prove-unreachable-requires
prove-unreachable-requires g c =
    let is : c.as_slice.result.now ≡ c.trace.new.order = grind (arith, common_steps) in
    let room : length c.as_slice.result.now ≡ length c.args.problem.now.flights =
    omega (arith, ap length is, c.in_ok-order-in-Some.ensures.len) in
    let lands = rw (← is) at c.trace.ensures.lands in
    let planned = well_formed_planned _ c.len-n.ensures.well_formed in
    c.if-prove.ensures.none refl _ (order_lands _ planned _ _ room lands)

pub returns-in_ok-order-in-Some : goal.returns-in_ok-order-in-Some
returns-in_ok-order-in-Some g c =
    let is : c.as_slice.result.now ≡ c.trace.new.order = grind (arith, common_steps) in
    let room : length c.as_slice.result.now ≡ length c.args.problem.now.flights = omega
    (arith, ap length is, c.in_ok-order-in-Some.ensures.len) in
    let lands = rw (← is) at c.trace.ensures.lands in
    let planned = well_formed_planned _ c.len-n.ensures.well_formed in
    let l = last_read _ _ c.requires.held (omega arith) _ _ _ c.len-n.ensures.value c.last.view_is c.index-kept-n.is in
    let long : length c.retime-is_landed.new.into ≡ length c.args.problem.now.flights = c.if-prove.ensures.room
    ∙ ap length c.in_ok-schedule.ensures ∙ length-replicate _ 0 ∙ c.len-n.ensures.value in
    plan_best _ planned _ _ room lands _ long (c.if-prove.ensures.earliest refl) (c.if-prove.ensures.least refl)
    (rw l.is at (no_more _ planned _ _ l.number l.held _ c.in-Some.ensures))
