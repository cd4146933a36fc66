-- One flight more.
use Rattle.flight_file.proofs.Names.{holds_more}
use Rattle.flight_file.proofs.reading.FlightsFormat.value_in.Goals as goal

pub returns-clause-holds : goal.returns-clause-holds
returns-clause-holds c =
    holds_more c.args.before.now c.flight_in.result c.flight_in.ensures.of_file c.flight_in.ensures.new
