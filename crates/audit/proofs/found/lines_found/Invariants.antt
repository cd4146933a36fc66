use Rattle.std.proofs.Common.{◌≡◌, ◌++◌, map, drop}
use Rattle.landing_rules.specs.Audit.{lines_found}
use Rattle.plan_file.specs.Shown.{shown_of}
use Rattle.audit.proofs.found.lines_found.Given as goal

-- the lines found so far, and those left
abbrev pub invariant-loop-line : goal.invariant-loop-line
invariant-loop-line l = l.all.items
    ++ lines_found l.active (map shown_of (drop l.line-index l.lines)) ≡ lines_found l.active (map shown_of l.lines)
