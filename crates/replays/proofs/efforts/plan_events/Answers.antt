use Rattle.std.proofs.Common.{arith}
use Rattle.std.proofs.lemmas.Result.{err_from_is_err_and}
use Rattle.arrivals.specs.Seen.{event_of}
use Rattle.replays.proofs.LongerRuns.{event_at, none_left}
use Rattle.replays.proofs.EffortLemmas.{begins, goes_on, stops, ends}
use Rattle.replays.proofs.efforts.plan_events.Goals as goal

pub loop-i-init : goal.loop-i-init
loop-i-init g c = begins _ _ _ c.requires.held c.requires.fits

pub returns-in_err-steps : goal.returns-in_err-steps
returns-in_err-steps g c =
    let here = rw (event_at event_of c.args.events.now c.loop-i.i c.index-events-i.result c.loop-i-test.true
    c.index-events-i.is) at c.loop-i.invariant in
    let p = err_from_is_err_and c.from_residual.result c.from_residual.ensures.1 in
    rw (p.1, p.2) (stops _ _ _ _ _ _ _ _ _ here c.in_err-steps.field-0.0 _ _ c.in_err-steps.ensures)

pub loop-i-preserved : goal.loop-i-preserved
loop-i-preserved g c =
    let here = rw (event_at event_of c.args.events.now c.loop-i.i c.index-events-i.result c.loop-i-test.true
    c.index-events-i.is) at c.loop-i.invariant in
    goes_on _ _ _ _ _ _ _ _ _ _ _ _ here c.in_ok-steps.ensures

pub returns : goal.returns
returns g c =
    let left = none_left event_of c.args.events.now c.loop-i.i (omega arith) in
    ends _ _ _ _ _ _ _ (rw left at c.loop-i.invariant)
