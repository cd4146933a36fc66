use Rattle.cps_theory.specs.laws.ShiftAfterFreeze.{stays_shifted}
use Rattle.cps_theory.proofs.freezing.staying_flights_keep_the_shift.Goals as goal

pub returns : goal.returns
returns c = stays_shifted
