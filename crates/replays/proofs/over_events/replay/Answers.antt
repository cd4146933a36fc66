use Rattle.std.proofs.Common.{◌≡◌, [], map, drop, arith, rules}
use Rattle.std.specs.Prelude.{is_some}
use Rattle.std.proofs.lemmas.List.{at_drop_all}
use Rattle.std.proofs.lemmas.Result.{err_from_is_err_and}
use Rattle.arrivals.specs.Seen.{event_of}
use Rattle.replays.proofs.Replays.{begins, ends_well, goes_on, stops, stops_at_once, tried}
use Rattle.replays.proofs.LongerRuns.{event_at}
use Rattle.replays.proofs.over_events.replay.Goals as goal

pub returns-in_err-open : goal.returns-in_err-open
returns-in_err-open g c =
    let p = err_from_is_err_and c.from_residual.result c.from_residual.ensures.1 in
    record {
      outcome = rw (p.1, p.2)
          (stops_at_once c.in_err-open.field-0.0 _ c.args.sequencer.now.state _ _ _ c.in_err-open.ensures);
    }

pub loop-i-init : goal.loop-i-init
loop-i-init g c = begins _ _ _ _ c.in_ok-open.ensures

pub returns-in_err-put_answer : goal.returns-in_err-put_answer
returns-in_err-put_answer g c =
    let here = rw (event_at event_of c.args.events.now c.loop-i.i c.index-events-i.result c.loop-i-test.true
    c.index-events-i.is) at c.loop-i.invariant in
    let p = err_from_is_err_and c.from_residual-in_err-put_answer.result
    c.from_residual-in_err-put_answer.ensures.1 in
    record {
      outcome = rw (p.1, p.2) (stops _ _ _ _ _ _ _ _ here c.in_err-put_answer.field-0.0 _ _
          (tried _ _ _ _ _ _ _ c.apply-outcome.result c.apply-outcome.ensures.accepted c.apply-outcome.ensures.refused
          c.in_err-put_answer.ensures));
    }

pub loop-i-preserved : goal.loop-i-preserved
loop-i-preserved g c =
    let here = rw (event_at event_of c.args.events.now c.loop-i.i c.index-events-i.result c.loop-i-test.true
    c.index-events-i.is) at c.loop-i.invariant in
    goes_on _ _ _ _ _ _ _ _ _ _ _ here
    (tried _ _ _ _ _ _ _ c.apply-outcome.result c.apply-outcome.ensures.accepted c.apply-outcome.ensures.refused
    c.in_ok-put_answer.ensures)

pub returns : goal.returns
returns g c =
    let none : map event_of (drop c.loop-i.i c.args.events.now) ≡ [] =
    at_drop_all (map event_of) c.args.events.now c.loop-i.i (omega (arith, c.loop-i-test.false, c.loop-i.auto)) in
    let planned : c.is_some.result ≡ is_some c.loop-i.sequencer.state.plan = search rules in
    record { outcome = ends_well _ c.loop-i.sequencer.state _ _ _ _ _ _ c.loop-i.invariant none planned }
