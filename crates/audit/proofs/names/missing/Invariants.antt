use Rattle.std.proofs.Common.{◌≡◌, ◌++◌, drop}
use Rattle.std.specs.Prelude.{map}
use Rattle.landing_rules.specs.Audit.{missing}
use Rattle.plan_file.specs.Shown.{shown_of}
use Rattle.audit.specs.Findings.{finding_of}
use Rattle.audit.proofs.names.missing.Given as goal

-- what is found so far, and what is left to find
abbrev pub invariant-loop-a : goal.invariant-loop-a
invariant-loop-a l = map finding_of l.all.items ++ missing (drop l.a-index l.active) (map shown_of l.lines)
    ≡ map finding_of l.initial.all.items ++ missing l.active (map shown_of l.lines)
