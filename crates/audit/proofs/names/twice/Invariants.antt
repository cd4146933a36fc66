use Rattle.std.proofs.Common.{◌≡◌, ℕ, List, ◌++◌, ◌||◌, map, drop}
use Rattle.landing_rules.specs.Text.{ShownLanding}
use Rattle.landing_rules.specs.Audit.{has_line, twice, twice_after}
use Rattle.plan_file.specs.Shown.{shown_of}
use Rattle.audit.specs.Findings.{finding_of}
use Rattle.audit.specs.Seen.{has_name}
use Rattle.audit.proofs.names.twice.Given as goal

-- the lines above, whose callsigns were seen; what is found of them, and what is left to find
abbrev pub invariant-loop-line : goal.invariant-loop-line
invariant-loop-line l = (above : List ShownLanding) ×
    ((c : List ℕ) → has_name l.seen c ≡ has_line above c) ×
    ((c : List ℕ) → (has_line above c || has_line (map shown_of (drop l.line-index l.lines)) c) ≡ has_line
    (map shown_of l.lines) c) ×
    (map finding_of l.all.items ++ twice_after above (map shown_of (drop l.line-index l.lines))
    ≡ map finding_of l.initial.all.items ++ twice (map shown_of l.lines))
