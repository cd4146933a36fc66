use Rattle.std.proofs.Common.{◌≡◌, take}
use Rattle.situations.specs.Opened.{newcomers}
use Rattle.situations.proofs.by_callsign.by_callsign.Given as goal

-- the flights so far are in
abbrev pub invariant-loop-flight : goal.invariant-loop-flight
invariant-loop-flight l = l.active.entries ≡ newcomers (take l.flight-index l.flights)
