use Rattle.std.proofs.Common.{◌≡◌, ◌++◌, drop}
use Rattle.std.specs.Prelude.{flat_map, map}
use Rattle.landing_rules.specs.Audit.{listed_late, landing_of}
use Rattle.audit.specs.Findings.{finding_of}
use Rattle.audit.proofs.rules.late_for.Given as goal

-- what is found so far, and what is left to find
abbrev pub invariant-loop-callsign : goal.invariant-loop-callsign
invariant-loop-callsign l =
    map finding_of l.all.items ++ flat_map (listed_late (map landing_of l.found) (landing_of l.d))
    (drop l.callsign-index l.d.1.flight.after)
    ≡ map finding_of l.initial.all.items
    ++ flat_map (listed_late (map landing_of l.found) (landing_of l.d)) l.d.1.flight.after
