use Rattle.planning_commands.proofs.Ended.{replayed}
use Rattle.planning_commands.proofs.replay.run_replay.Goals as goal

pub returns : goal.returns
returns g c = rw c.ending_of.ensures (replayed c.args.files.now.aerodrome.now c.args.files.now.flights.now
    c.args.files.now.events.now _ _ _ _ c.in-Ok.ensures.begun.0 c.replay-replayed.new.sequencer.state _
    (rw c.as_slice.ensures.value at c.replay-replayed.ensures.outcome))
