use Rattle.std.proofs.Common.{take}
use Rattle.std.specs.Prelude.{All}
use Rattle.arrivals.specs.Seen.{flight_of}
use Rattle.situations.specs.Opened.{IsKept}
use Rattle.situations.proofs.situation.all_known.Given as goal

-- those of the flights so far
abbrev pub invariant-loop-flight : goal.invariant-loop-flight
invariant-loop-flight l = All (λ f. IsKept (flight_of f)) (take l.flight-index l.flights)
