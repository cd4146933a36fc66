-- One more finding.
use Rattle.std.proofs.Common.{◌≡◌, ◌+◌, ◌∷◌, ◌++◌, map, drop, refl, sym, ap, ◌∙◌, append_assoc}
use Rattle.std.proofs.lemmas.List.{drop_more}
use Rattle.landing_rules.specs.Text.{line}
use Rattle.audit.specs.Findings.{finding_of}
use Rattle.audit.specs.Texts.{finding_words, findings_text}
use Rattle.audit.specs.shared.Steps.{at_end}
use Rattle.audit.proofs.text.append_lines.Goals as goal

pub loop-finding-preserved : goal.loop-finding-preserved
loop-finding-preserved c =
    let findings = c.args.findings.now in
    let i = c.loop-finding.finding-index in
    let one = c.finding-item.result in
    let rest = findings_text (map finding_of (drop (i + 1) findings)) in
    let here : drop i findings ≡ one ∷ drop (i + 1) findings = drop_more findings i one c.loop-finding-test.true
    ∙ ap (λ f. f ∷ drop (i + 1) findings) (sym c.finding-item.is) in
    ap (λ l. l ++ rest) c.in_ok-append_line.ensures
    ∙ append_assoc c.loop-finding.into.items (line (finding_words (finding_of one))) rest
    ∙ ap (λ fs. c.loop-finding.into.items ++ findings_text (map finding_of fs)) (sym here) ∙ c.loop-finding.invariant

pub returns : goal.returns
returns c = at_end c.loop-finding.into.items (λ fs. findings_text (map finding_of fs)) c.args.findings.now
    c.loop-finding.finding-index _ c.loop-finding-test.false refl c.loop-finding.invariant
