use Rattle.std.proofs.Common.{◌≡◌, ◌++◌, drop}
use Rattle.std.specs.Prelude.{map}
use Rattle.landing_rules.specs.Audit.{unseparated, landing_of}
use Rattle.audit.specs.Findings.{finding_of}
use Rattle.audit.proofs.rules.unseparated.Given as goal

-- what is found so far, and what is left to find
abbrev pub invariant-loop-i : goal.invariant-loop-i
invariant-loop-i l = map finding_of l.all.items ++ unseparated l.table (map landing_of (drop l.i l.found))
    ≡ map finding_of l.initial.all.items ++ unseparated l.table (map landing_of l.found)
