use Rattle.std.proofs.Common.{◌≡◌, map, take}
use Rattle.plan_text.specs.Kept.{landing_of}
use Rattle.plan_text.proofs.kept_text.count_same.Given as goal

-- the landings so far are the plan's
abbrev pub invariant-loop-i : goal.invariant-loop-i
invariant-loop-i l = map landing_of (take l.i l.lines) ≡ take l.i l.plan.landings
