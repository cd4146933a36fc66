use Rattle.std.proofs.Common.{◌≡◌, ◌+◌, ◌++◌, map, drop}
use Rattle.landing_rules.specs.Audit.{disordered_from}
use Rattle.plan_file.specs.Shown.{shown_of}
use Rattle.audit.specs.Findings.{finding_of}
use Rattle.audit.proofs.order.disordered_behind.Given as goal

-- what is found so far, and what is left to find
abbrev pub invariant-loop-i : goal.invariant-loop-i
invariant-loop-i l = map finding_of l.all.items ++ disordered_from (l.i + 2) l.before
    (map shown_of (drop l.i l.lines))
    ≡ map finding_of l.initial.all.items ++ disordered_from 2 l.first (map shown_of l.lines)
