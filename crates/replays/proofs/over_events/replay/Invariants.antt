use Rattle.std.proofs.Common.{◌+◌, map, drop}
use Rattle.arrivals.specs.Seen.{event_of}
use Rattle.replays.proofs.Replays.{Done}
use Rattle.replays.proofs.over_events.replay.Given as goal

abbrev pub invariant-loop-i : goal.invariant-loop-i
invariant-loop-i g l =
    Done l.fn.sequencer.state (map event_of l.fn.events) (g.S.Sink.state l.fn.out) (l.i + 1) l.sequencer.state
    (map event_of (drop l.i l.events)) (g.S.Sink.state l.out)
