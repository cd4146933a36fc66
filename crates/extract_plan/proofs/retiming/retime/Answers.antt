use Rattle.std.proofs.Common.{◌≡◌, ◌-◌, Some, length, get_or, take, reverse, arith, sym, ap, ◌∙◌}
use Rattle.std.proofs.Math.ListN.{set, length-set}
use Rattle.cps_theory.specs.LandingTrail.{latest_landing}
use Rattle.cps_theory.specs.Feasible.{earliest, next_from, at_seconds}
use Rattle.cps_theory.specs.laws.OrderLoops.{front_more, earliest_more, earliest_stops_at, seconds_more}
use Rattle.landing_joint.specs.RankedProblem.{ranked, first_at}
use Rattle.std.proofs.lemmas.List.{take_all}
use Rattle.extract_plan.proofs.Retimed.{is_earliest, retimed_lands, retimed_none, retimed_least}
use Rattle.extract_plan.proofs.retiming.retime.Goals as goal

pub returns-in-None-clause-none : goal.returns-in-None-clause-none
returns-in-None-clause-none c = λ _.
    let p = c.args.problem.now in
    retimed_none p _ c.requires.order
    (earliest_stops_at (first_at p) (next_from (ranked p)) c.args.order.now c.loop-rank.rank-index 0 _
    c.loop-rank-test.true c.loop-rank.invariant.landed
    (rw c.loop-rank.invariant.latest (sym c.landing_after.ensures.value ∙ c.in-None.is)))

pub loop-rank-preserved : goal.loop-rank-preserved
loop-rank-preserved c =
    let p = c.args.problem.now in
    let order = c.args.order.now in
    let i = c.loop-rank.rank-index in
    let r = get_or order i 0 in
    let u = c.in-Some.landing in
    let lt = c.loop-rank-test.true in
    let seconds = seconds_more _ order i u lt (λ k d l. let q = c.requires.order.ranks k d l in
    (q.0, omega (arith, c.loop-rank.invariant.room))) c.requires.order.distinct in
    let is : c.set.new.self ≡ set c.loop-rank.into (r - 1) u = c.set.ensures in
    record {
      landed = rw is (ap (earliest (first_at p) (next_from (ranked p))) (front_more order i 0 lt)
          ∙ earliest_more (first_at p) (next_from (ranked p)) r u (reverse (take i order)) _
          c.loop-rank.invariant.landed
          (rw c.loop-rank.invariant.latest (sym c.landing_after.ensures.value ∙ c.in-Some.is))
          ∙ ap Some (sym seconds));
      latest = rw is (ap latest_landing seconds);
      early = c.in-Some.ensures.in_days;
      rank = (c.requires.order.ranks i 0 lt).1;
      room = ap length is ∙ length-set _ (r - 1) u ∙ c.loop-rank.invariant.room;
    }

-- at the end of the loop the whole order has landed
retimed : (c : goal.After-loop-rank) → earliest (first_at c.args.problem.now) (next_from (ranked c.args.problem.now))
    (reverse c.args.order.now) ≡ Some (at_seconds (λ r. get_or c.loop-rank.into (r - 1) 0) (reverse c.args.order.now))
retimed c =
    let whole = take_all c.loop-rank.rank-index c.args.order.now (omega arith) in
    rw whole at c.loop-rank.invariant.landed

pub returns-clause-lands : goal.returns-clause-lands
returns-clause-lands c = λ _. retimed_lands _ _ c.requires.order
    c.len-flights.ensures.well_formed.table _ c.loop-rank.invariant.room (retimed c)

pub returns-clause-least : goal.returns-clause-least
returns-clause-least c = λ _. retimed_least _ _ c.requires.order _ c.loop-rank.invariant.room (retimed c)

pub returns-clause-earliest : goal.returns-clause-earliest
returns-clause-earliest c = λ _. is_earliest c.args.problem.now _ c.requires.order _ (retimed c)
