use Rattle.planning_commands.proofs.Ended.{effort_ended}
use Rattle.planning_commands.proofs.effort.run_effort.Goals as goal

pub returns : goal.returns
returns g c = rw c.ending_of.ensures (effort_ended c.args.files.now.aerodrome.now c.args.files.now.flights.now
    c.args.files.now.events.now _ _ _ _ c.in-Ok.ensures.begun.0 c.effort-ended.new.opened.sequencer.state _
    (rw c.as_slice.ensures.value at c.effort-ended.ensures.outcome))
