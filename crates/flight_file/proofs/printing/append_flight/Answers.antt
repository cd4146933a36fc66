-- A line is its first four fields and then the others.
use Rattle.std.proofs.Common.{arith}
use Rattle.flight_file.proofs.PrintedParts.{line_joined}
use Rattle.flight_file.proofs.printing.append_flight.Goals as goal

pub returns-clause-text : goal.returns-clause-text
returns-clause-text c = grind (arith, line_joined)
