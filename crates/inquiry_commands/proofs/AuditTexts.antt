-- No finding is printed as the line that nothing is found; how long the text of all findings is.
use Rattle.std.proofs.Common.{◌≡◌, ◌≢◌, ◌≤◌, ℕ, List, [], ◌∷◌, ◌++◌, length, get_or, map, Ok, refl, sym, ap, ◌∙◌, arith}
use Rattle.std.specs.Prelude.{◌↔◌, codes}
use Rattle.landing_rules.specs.Text.{line}
use Rattle.landing_rules.specs.Audit.{Closed, Early, Finding, Mark, Missing, Moved, Order, OtherObjective, Precedence}
use Rattle.landing_rules.specs.Audit.{Separation, Shift, Twice, Unknown, Value, findings}
use Rattle.landing_rules.specs.Flights.{Situation}
use Rattle.landing_rules.specs.Sound.{IsSound}
use Rattle.audit.specs.declared.finding.Finding as found
use Rattle.audit.specs.Findings.{finding_of}
use Rattle.audit.specs.Texts.{finding_words, findings_text}
use Rattle.plan_file.specs.declared.plan.PlanText.{PlanText}
use Rattle.plan_file.specs.declared.plan.PlanText.TheVariants as plans
use Rattle.plan_file.specs.Blocks.{seen_block}
use Rattle.sequencer.specs.Opened.{opened}
use Rattle.text_bounds.specs.Counts.{count_in}
use Rattle.endings.specs.shared.Files.{of_three}
use Rattle.openings.specs.shared.OpenedFlights.{as_many}
use Rattle.inquiry_commands.specs.Audit.{AuditIsBoundedLaw, audit_bound, audit_text, line_count_of, report}
use Rattle.inquiry_commands.proofs.AuditLengths.{findings_short}
use Rattle.inquiry_commands.proofs.PlanLines.{AreTold, plan_told}

-- the second byte is no `k`
second_byte : (f : Finding) (rest : List ℕ) → get_or (line (finding_words f) ++ rest) 1 0 ≢ 107
second_byte (Missing c) rest e = omega (arith, e)
second_byte (Unknown c) rest e = omega (arith, e)
second_byte (Twice c) rest e = omega (arith, e)
second_byte (Order i) rest e = omega (arith, e)
second_byte (Mark c) rest e = omega (arith, e)
second_byte (Closed c t) rest e = omega (arith, e)
second_byte (Separation c d) rest e = omega (arith, e)
second_byte (Precedence c d) rest e = omega (arith, e)
second_byte (Moved c t) rest e = omega (arith, e)
second_byte (Early c) rest e = omega (arith, e)
second_byte (Shift c p r) rest e = omega (arith, e)
second_byte OtherObjective rest e = omega (arith, e)
second_byte (Value v) rest e = omega (arith, e)

-- `ok` is printed of no findings alone
pub ok_of_none : (fs : List found.Finding) (text : List ℕ) {C : Type 0} → text ≡ report (map finding_of fs)
    → ((fs ≡ []) ↔ C) → (text ≡ line (codes "ok")) ↔ C
ok_of_none [] text prints law = (λ e. law.0 refl, λ c. prints)
ok_of_none (f ∷ fs) text prints law = (
  λ e. absurd (second_byte (finding_of f) (findings_text (map finding_of fs))
      (ap (λ (l : List ℕ). get_or l 1 0) (sym prints ∙ e))),
  λ c. (let none : f ∷ fs ≡ [] = law.1 c in absurd (cc none)),
)

-- ---- lengths

report_short : (m : ℕ) (all : List Finding) → 3 ≤ m → length (findings_text all) ≤ m → length (report all) ≤ m
report_short m [] least h = omega (arith, least)
report_short m (x ∷ all) least h = h

text_short : (s : Situation) (plan : PlanText) → IsSound s → AreTold plan
    → length (audit_text s plan) ≤ audit_bound (length s.active) (line_count_of (Ok plan))
text_short s plans.Nothing sound told = omega arith
text_short s (plans.Block b) sound told = report_short (audit_bound (length s.active) (length b.lines))
    (findings s (seen_block b)) (omega arith) (findings_short s sound (seen_block b) told.0 told.1)

pub audit_short : AuditIsBoundedLaw
audit_short a f p text answer x =
    let s = opened x.aerodrome x.flights in
    let lines = text_short s x.third x.holds.sound (plan_told p x.third x.third_read) in
    let active = as_many x.aerodrome x.flights s refl in
    of_three _ a f p _ x (λ r q t. length text ≤ audit_bound (count_in q) (line_count_of t))
    (omega (arith, lines, active, ap length x.holds.prints))
