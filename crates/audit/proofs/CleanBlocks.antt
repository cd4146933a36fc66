-- Nothing is found exactly where the block is clean.
use Rattle.std.proofs.Common.{◌≡◌, List, [], ◌∷◌, map, refl, sym, ap, ◌∙◌}
use Rattle.std.specs.Prelude.{◌↔◌}
use Rattle.landing_rules.specs.Flights.{Situation}
use Rattle.landing_rules.specs.Sound.{IsSound}
use Rattle.landing_rules.specs.Audit.{Block, IsClean, findings}
use Rattle.landing_joint.specs.AuditLaws.{AuditLaw}
use Rattle.audit.specs.declared.finding.Finding.{Finding}
use Rattle.audit.specs.Findings.{finding_of}

none_shown : (xs : List Finding) → map finding_of xs ≡ [] → xs ≡ []
none_shown [] h = refl
none_shown (x ∷ xs) h = absurd (cc)

pub clean_exactly : (s : Situation) (b : Block) (xs : List Finding) → AuditLaw → IsSound s
    → map finding_of xs ≡ findings s b → (xs ≡ []) ↔ IsClean s b
clean_exactly s b xs law sound h =
    ((λ e. (law s b sound).0 (sym h ∙ ap (map finding_of) e)), (λ k. none_shown xs (h ∙ (law s b sound).1 k)))
