-- The one text of a certificate.
use Rattle.std.specs.Prelude.{ℕ, List, [], ◌∷◌, ◌++◌, Bool, map, codes, decimal, if◌then◌else◌}
use Rattle.certificate.specs.declared.certificate.Claim.{Claim}
use Rattle.certificate.specs.declared.certificate.Claim.TheVariants.{Optimal, Infeasible}
use Rattle.certificate.specs.States.{Pair, State}
use Rattle.certificate.specs.Reading.{Cert}

abbrev pub digit_text : Bool → ℕ
digit_text d = if d then 49 else 48

abbrev pub pattern_text : List Bool → List ℕ
pattern_text [] = codes "-"
pattern_text (d ∷ ds) = map digit_text (d ∷ ds)

abbrev pub pair_text : Pair → List ℕ
pair_text p = decimal p.0 ++ 58 ∷ decimal p.1

-- each behind a blank
abbrev pub pairs_text : List Pair → List ℕ
pairs_text [] = []
pairs_text (p ∷ ps) = 32 ∷ (pair_text p ++ pairs_text ps)

abbrev pub state_text : State → List ℕ
state_text s = codes "state"
    ++ 32 ∷ (decimal s.stage ++ 32 ∷ (pattern_text s.pattern ++ 32 ∷ (decimal s.last ++ pairs_text s.pairs)))

abbrev pub landing_text : List ℕ × ℕ → List ℕ
landing_text l = codes "land" ++ 32 ∷ (l.0 ++ 32 ∷ decimal l.1)

abbrev pub claim_text : Claim → List ℕ
claim_text (Optimal v) = codes "claim" ++ 32 ∷ (codes "optimal" ++ 32 ∷ decimal v)
claim_text Infeasible = codes "claim" ++ 32 ∷ codes "infeasible"

abbrev pub landing_lines : List (List ℕ × ℕ) → List ℕ
landing_lines [] = []
landing_lines (l ∷ ls) = landing_text l ++ 10 ∷ landing_lines ls

abbrev pub state_lines : List State → List ℕ
state_lines [] = []
state_lines (s ∷ ss) = state_text s ++ 10 ∷ state_lines ss

abbrev pub certificate_text : Cert → List ℕ
certificate_text c = codes "certificate 1"
    ++ 10 ∷ (claim_text c.claim ++ 10 ∷ (landing_lines c.landings ++ state_lines c.states))
