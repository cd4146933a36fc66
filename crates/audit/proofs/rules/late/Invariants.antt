use Rattle.std.proofs.Common.{◌≡◌, ◌++◌, drop}
use Rattle.std.specs.Prelude.{flat_map, map}
use Rattle.landing_rules.specs.Flights.{Landing}
use Rattle.landing_rules.specs.Audit.{late, listed_late, landing_of}
use Rattle.audit.specs.Findings.{finding_of}
use Rattle.audit.proofs.rules.late.Given as goal

-- what is found so far, and what is left to find
abbrev pub invariant-loop-d : goal.invariant-loop-d
invariant-loop-d l =
    map finding_of l.all.items
    ++ flat_map (λ (d : Landing). flat_map (listed_late (map landing_of l.found) d) d.flight.after)
    (map landing_of (drop l.d-index l.found))
    ≡ map finding_of l.initial.all.items ++ late (map landing_of l.found)
