use Rattle.std.proofs.Common.{◌≡◌, ℕ, Bool, true, false, List, [], ◌+◌, ◌||◌, ◌∷◌, ◌++◌, map, drop, refl, sym, ap, ◌∙◌}
use Rattle.std.specs.Str.{bytes_eq}
use Rattle.std.proofs.lemmas.List.{at_drop_all}
use Rattle.landing_rules.specs.Audit.{has_line, twice_after}
use Rattle.plan_file.specs.Shown.{shown_of}
use Rattle.plan_file.specs.declared.landing.Landing.{Landing}
use Rattle.audit.specs.Findings.{finding_of, repeated}
use Rattle.audit.specs.Seen.{has_name}
use Rattle.audit.proofs.SeenNames.{twice_step, seen_step}
use Rattle.audit.specs.shared.Steps.{at_end}
use Rattle.audit.proofs.names.twice.Goals as goal

pub loop-line-preserved : goal.loop-line-preserved
loop-line-preserved c =
    let lines = c.args.lines.now in
    let i = c.loop-line.line-index in
    let l = c.line-item.result in
    let kept = c.loop-line.invariant in
    let above = kept.0 in (
      shown_of l ∷ above,
      λ d. c.in_ok-was_seen.ensures.more d ∙ ap (λ b. bytes_eq l.callsign d || b) (kept.1 d),
      λ d. seen_step lines i l above d _ c.loop-line-test.true c.line-item.is (kept.2 d),
      ap (λ x. x ++ twice_after (shown_of l ∷ above) (map shown_of (drop (i + 1) lines))) c.in_ok-note_again.ensures
          ∙ twice_step lines i l above (map finding_of c.loop-line.all.items)
          (repeated c.in_ok-was_seen.was_seen l.callsign) _ c.loop-line-test.true c.line-item.is
          (ap (λ b. repeated b l.callsign) (c.in_ok-was_seen.ensures.was ∙ kept.1 l.callsign)) kept.3,
    )

pub loop-line-init : goal.loop-line-init
loop-line-init c = ([], λ d. ap (λ (s : List (List ℕ)). has_name s d) c.requires, λ d. refl, refl)

pub returns-clause-found : goal.returns-clause-found
returns-clause-found c =
    let kept = c.loop-line.invariant in
    at_end (map finding_of c.loop-line.all.items) (λ ls. twice_after kept.0 (map shown_of ls))
    c.args.lines.now c.loop-line.line-index _ c.loop-line-test.false refl kept.3

or-none : (b : Bool) → b ≡ (b || false)
or-none true = refl
or-none false = refl

pub returns-clause-seen : goal.returns-clause-seen
returns-clause-seen c d =
    let kept = c.loop-line.invariant in
    let left = λ (ls : List Landing). has_line (map shown_of ls) d in
    kept.1 d ∙ or-none (has_line kept.0 d) ∙ ap (λ b. has_line kept.0 d || b)
    (sym (at_drop_all left c.args.lines.now c.loop-line.line-index c.loop-line-test.false)) ∙ kept.2 d
