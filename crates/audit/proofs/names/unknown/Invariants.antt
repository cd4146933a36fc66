use Rattle.std.proofs.Common.{◌≡◌, ◌++◌, drop}
use Rattle.std.specs.Prelude.{map}
use Rattle.landing_rules.specs.Audit.{unknown}
use Rattle.plan_file.specs.Shown.{shown_of}
use Rattle.audit.specs.Findings.{finding_of}
use Rattle.audit.proofs.names.unknown.Given as goal

-- what is found so far, and what is left to find
abbrev pub invariant-loop-l : goal.invariant-loop-l
invariant-loop-l l = map finding_of l.all.items ++ unknown l.active (map shown_of (drop l.l-index l.lines))
    ≡ map finding_of l.initial.all.items ++ unknown l.active (map shown_of l.lines)
