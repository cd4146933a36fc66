-- The runway's open seconds within the windows are the flight's.
use Rattle.landing_windows.proofs.open_times.OpenTimes.of.Goals as goal

pub returns : goal.returns
returns c = c.in_ok-times.ensures.flight _ c.in_ok-runway.ensures
