use Rattle.std.proofs.Common.{◌≡◌, take}
use Rattle.plan_text.proofs.kept_text.KeptText.go_on.Given as goal

-- the plan's first landings behind the same head
abbrev pub invariant-loop-i : goal.invariant-loop-i
invariant-loop-i l = l.self ≡ record l.fn.self { landings = take l.i l.plan.landings }
