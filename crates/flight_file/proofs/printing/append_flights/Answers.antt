-- None is left at the end.
use Rattle.std.proofs.Common.{◌<◌, List, length, arith}
use Rattle.std.proofs.lemmas.Grind.{common_steps}
use Rattle.arrivals.specs.declared.flight.Flight.{Flight}
use Rattle.flight_file.specs.Kept.{AreKept}
use Rattle.flight_file.proofs.printing.append_flights.Goals as goal

none_left : (flights : List Flight) → length flights < 1 → AreKept flights
none_left flights few = grind (arith, common_steps)

pub returns-clause-kept : goal.returns-clause-kept
returns-clause-kept c = grind (arith, none_left)
