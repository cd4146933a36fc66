-- What a run of `check` does with a certificate that `certify` printed.
use Rattle.std.specs.Prelude.{◌≡◌, ◌⊎◌, ℕ, List, [], ◌∷◌}
use Rattle.cert_check.specs.WholeLaws.{claimed}
use Rattle.cps_outside.specs.Causes.{Rose}
use Rattle.cps_outside.specs.SinkState.{Grows}
use Rattle.cps_top.specs.declared.commands.Command.TheVariants.{Check}
use Rattle.endings.specs.declared.ending.Answer.{Answer}
use Rattle.certificate_commands.specs.Certify.{AdmitsCertify}
use Rattle.endings.specs.Outside.{Outside}
use Rattle.cps_top.specs.Statuses.{AreThere, Completes}
use Rattle.certificate_commands.specs.Verdicts.{verdict_text}

-- Over files that are there, none of them too long, and with no fault, the line of what it claims is written whole,
-- with status 0, or memory was short.
abbrev pub PrintedRunsAcceptedLaw : Type 0
PrintedRunsAcceptedLaw = (words : List (List ℕ)) (old new : Outside) (status : ℕ) (aerodrome flights text : List ℕ)
    (answer : Answer)
    (printed : AdmitsCertify aerodrome flights text answer) → AreThere words old Check (aerodrome ∷ flights ∷ text ∷ [])
    →
    Completes words old new status → (Rose old.folder.faults new.folder.faults → ⊥)
    → (Rose old.out.faults new.out.faults → ⊥) →
    (status ≡ 8) ⊎ ((status ≡ 0) × Grows old.out new.out (verdict_text (claimed printed.holds.certificate.claim)))
