use Rattle.std.proofs.Common.{◌≡◌, ◌++◌, map, drop}
use Rattle.audit.specs.Findings.{finding_of}
use Rattle.audit.specs.Texts.{findings_text}
use Rattle.audit.proofs.text.append_lines.Given as goal

-- the lines so far, and those that are left
abbrev pub invariant-loop-finding : goal.invariant-loop-finding
invariant-loop-finding l = l.into.items
    ++ findings_text (map finding_of (drop l.finding-index l.findings)) ≡ l.initial.into.items
    ++ findings_text (map finding_of l.findings)
