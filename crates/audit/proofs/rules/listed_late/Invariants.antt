use Rattle.std.proofs.Common.{◌≡◌, ◌++◌, drop}
use Rattle.std.specs.Prelude.{map}
use Rattle.landing_rules.specs.Audit.{landing_of, listed_late}
use Rattle.audit.specs.Findings.{finding_of}
use Rattle.audit.proofs.rules.listed_late.Given as goal

-- what is found so far, and what is left to find
abbrev pub invariant-loop-f : goal.invariant-loop-f
invariant-loop-f l = map finding_of l.all.items
    ++ listed_late (map landing_of (drop l.f-index l.found)) (landing_of l.d) l.callsign
    ≡ map finding_of l.initial.all.items ++ listed_late (map landing_of l.found) (landing_of l.d) l.callsign
