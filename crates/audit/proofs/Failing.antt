-- One more element of a list that a rule looks through.
use Rattle.std.proofs.Common.{◌≡◌, ℕ, ◌+◌, ◌<◌, Bool, true, false, cond, List, ◌∷◌, ◌++◌, length, get_or, map, drop}
use Rattle.std.proofs.Common.{refl, sym, ap, ◌∙◌}
use Rattle.landing_rules.specs.Audit.{Finding, for_failing}
use Rattle.audit.specs.Findings.{unless}
use Rattle.audit.specs.shared.Steps.{place_step}

unless_cond : (kept : Bool) (finding : Finding) (rest : List Finding)
    → unless kept finding ++ rest ≡ cond kept rest (finding ∷ rest)
unless_cond true finding rest = refl
unless_cond false finding rest = refl

pub failing_step : {T X : Type 0} (passes : X → Bool) (finding : X → Finding) (seen : T → X) (ts : List T) (i : ℕ)
    (t : T) (kept : Bool) (done whole : List Finding) →
    i < length ts → t ≡ get_or ts i t → kept ≡ passes (seen t)
    → done ++ for_failing passes finding (map seen (drop i ts)) ≡ whole →
    (done ++ unless kept (finding (seen t))) ++ for_failing passes finding (map seen (drop (i + 1) ts)) ≡ whole
failing_step {T = T} passes finding seen ts i t kept done whole lt same e h =
    let left = λ (us : List T). for_failing passes finding (map seen us) in
    place_step left left ts i t done (unless kept (finding (seen t))) whole lt same
    (sym (ap (λ b. unless b (finding (seen t)) ++ left (drop (i + 1) ts)) e
    ∙ unless_cond (passes (seen t)) (finding (seen t)) (left (drop (i + 1) ts)))) h

-- the same where the rule looks at the elements themselves
pub failing_here : {T : Type 0} (passes : T → Bool) (finding : T → Finding) (ts : List T) (i : ℕ) (t : T)
    (kept : Bool) (done whole : List Finding) →
    i < length ts → t ≡ get_or ts i t → kept ≡ passes t → done ++ for_failing passes finding (drop i ts) ≡ whole →
    (done ++ unless kept (finding t)) ++ for_failing passes finding (drop (i + 1) ts) ≡ whole
failing_here {T = T} passes finding ts i t kept done whole lt same e h =
    let left = λ (us : List T). for_failing passes finding us in
    place_step left left ts i t done (unless kept (finding t)) whole lt same
    (sym (ap (λ b. unless b (finding t) ++ left (drop (i + 1) ts)) e
    ∙ unless_cond (passes t) (finding t) (left (drop (i + 1) ts)))) h
