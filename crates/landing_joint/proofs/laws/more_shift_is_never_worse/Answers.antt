use Rattle.landing_joint.proofs.Shift.{more_shift, more_shift_is_no_worse, less_shift_is_infeasible}
use Rattle.landing_joint.proofs.laws.more_shift_is_never_worse.Goals as goal

pub returns : goal.returns
returns c = record { feasible = more_shift; no_worse = more_shift_is_no_worse; infeasible = less_shift_is_infeasible }
