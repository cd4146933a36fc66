use Rattle.std.proofs.Common.{◌≡◌, ◌++◌, drop}
use Rattle.std.specs.Prelude.{map}
use Rattle.landing_rules.specs.Audit.{mismarked}
use Rattle.audit.specs.Findings.{finding_of}
use Rattle.audit.proofs.found.mismarked.Given as goal

-- what is found so far, and what is left to find
abbrev pub invariant-loop-f : goal.invariant-loop-f
invariant-loop-f l = map finding_of l.all.items ++ mismarked (drop l.f-index l.found)
    ≡ map finding_of l.initial.all.items ++ mismarked l.found
