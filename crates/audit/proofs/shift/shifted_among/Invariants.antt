use Rattle.std.proofs.Common.{◌≡◌, ◌++◌, map, drop}
use Rattle.landing_rules.specs.Audit.{landing_of, shifted}
use Rattle.audit.specs.Findings.{finding_of}
use Rattle.audit.proofs.Shifting.{too_far_from}
use Rattle.audit.proofs.shift.shifted_among.Given as goal

-- what is found so far, and what is left to find
abbrev pub invariant-loop-f : goal.invariant-loop-f
invariant-loop-f l =
    map finding_of l.all.items ++ too_far_from l.k (map (λ g. landing_of g.now) l.waiting)
    (drop l.f-index (map (λ g. landing_of g.now) l.waiting))
    ≡ map finding_of l.initial.all.items ++ shifted l.k (map (λ g. landing_of g.now) l.waiting)
