-- More shift allows more.
use Rattle.std.proofs.lemmas.Grind.{common_steps}
use Rattle.std.proofs.Common.{arith}
use Rattle.landing_joint.specs.Shift.{MoreShiftLaw, MoreShiftIsNoWorseLaw, LessShiftIsInfeasibleLaw}

pub more_shift : MoreShiftLaw
more_shift s k l t le f = grind (arith, common_steps)

pub more_shift_is_no_worse : MoreShiftIsNoWorseLaw
more_shift_is_no_worse s k l t u le bt bu = bu.least t (more_shift s k l t le bt.feasible)

pub less_shift_is_infeasible : LessShiftIsInfeasibleLaw
less_shift_is_infeasible s k l le none t f = none t (more_shift s k l t le f)
