use Rattle.std.proofs.Common.{◌≡◌, ◌++◌, drop}
use Rattle.std.specs.Prelude.{map}
use Rattle.landing_rules.specs.Audit.{landing_of}
use Rattle.audit.specs.Findings.{finding_of, too_near}
use Rattle.audit.proofs.rules.unseparated_from.Given as goal

-- what is found so far, and what is left to find
abbrev pub invariant-loop-g : goal.invariant-loop-g
invariant-loop-g l = map finding_of l.all.items
    ++ too_near l.table (landing_of l.first) (map landing_of (drop l.g-index l.others))
    ≡ map finding_of l.initial.all.items ++ too_near l.table (landing_of l.first) (map landing_of l.others)
