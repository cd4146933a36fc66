-- A whole text that is read prints back as the text.
use Rattle.std.proofs.Common.{rules, ◌≡◌, ℕ, ◌+◌, true, List, [], ◌∷◌, ◌++◌, length, Some}
use Rattle.std.proofs.Common.{Result, Ok, refl, sym, ap, ◌∙◌, arith, append_assoc}
use Rattle.std.proofs.lemmas.Grind.{common_steps}
use Rattle.std.specs.Prelude.{◌==◌, codes, bytes_eq, IfOk}
use Rattle.std.specs.List.{join_with_byte}
use Rattle.cps_base.specs.Answers.{Gives}
use Rattle.certificate.specs.declared.certificate.Claim.{Claim}
use Rattle.certificate.specs.declared.fault.CertFault.{CertFault}
use Rattle.certificate.specs.States.{State}
use Rattle.texts.specs.Parts.{parts}
use Rattle.certificate.specs.Lines.{claim_in}
use Rattle.certificate.specs.Reading.{Cert, Body, line_in, lines_in, body_lines, claim_behind}
use Rattle.certificate.specs.Reading.{certificate_by, certificate_of, memory_fault}
use Rattle.certificate.specs.Spelling.{state_text, landing_text, claim_text, landing_lines, state_lines}
use Rattle.certificate.specs.Spelling.{certificate_text}
use Rattle.certificate.proofs.Valid.{bind_ok}
use Rattle.certificate.proofs.AsRead.{joined, same_text, state_printed, landing_printed, claim_printed}

abbrev body_text : Body → List ℕ
body_text b = landing_lines b.0 ++ state_lines b.1

landings_printed : (ls : List (List ℕ × ℕ)) (l : List ℕ × ℕ) → landing_lines (ls ++ l ∷ []) ≡ landing_lines ls
    ++ (landing_text l ++ 10 ∷ [])
landings_printed [] l = refl
landings_printed (x ∷ xs) l = grind (arith, common_steps, landings_printed xs l)

states_printed : (ss : List State) (s : State) → state_lines (ss ++ s ∷ []) ≡ state_lines ss
    ++ (state_text s ++ 10 ∷ [])
states_printed [] s = refl
states_printed (x ∷ xs) s = grind (arith, common_steps, states_printed xs s)

no_states : (ss : List State) → length ss == 0 ≡ true → ss ≡ []
no_states ss e = grind (arith, common_steps)

line_printed : (n : ℕ) (b : Body) (line : List ℕ) (b' : Body) → line_in n b line ≡ Ok b'
    → body_text b' ≡ body_text b ++ (line ++ 10 ∷ [])
unfolding line_in
line_printed n b line b' e = search
    (rules, no_states, landings_printed, landing_printed, states_printed, state_printed, append_assoc)

lines_printed : (n : ℕ) (c : Claim) (b : Body) (line : List ℕ) (rest : List (List ℕ)) (x : Cert)
    → lines_in n c b line rest ≡ Ok x → (landing_lines x.landings ++ state_lines x.states ≡ body_text b
    ++ join_with_byte 10 (line ∷ rest)) × (x.claim ≡ c)
unfolding lines_in
lines_printed n c b line [] x e = grind (arith, common_steps)
lines_printed n c b line (next ∷ rest) x e =
    let more = bind_ok (line_in n b line) _ x e in
    let k = lines_printed (n + 1) c more.0 next rest x more.2 in
    let here = line_printed n b line more.0 more.1 in grind (arith, common_steps)

-- what is read prints back as the text
pub prints_back : (bytes : List ℕ) (c : Cert) → certificate_of bytes ≡ Ok c → certificate_text c ≡ bytes
unfolding certificate_of certificate_by
prints_back bytes c e = head (parts 10 bytes) refl e
  where
    body : (first second : List ℕ) (v : Claim) (rest : List (List ℕ)) → bytes_eq first (codes "certificate 1") ≡ true
        → claim_in second ≡ Some v → parts 10 bytes ≡ first ∷ second ∷ rest → body_lines v rest ≡ Ok c
        → codes "certificate 1" ++ 10 ∷ (claim_text c.claim
        ++ 10 ∷ (landing_lines c.landings ++ state_lines c.states)) ≡ bytes
    body first second v [] is said f e = absurd cc
    body first second v (line ∷ rest) is said f e =
        let k = lines_printed 3 v ([], []) line rest c e in
        let claim : claim_text c.claim ≡ second = ap claim_text k.1 ∙ claim_printed second v said in
        let one : codes "certificate 1" ≡ first = sym (same_text first (codes "certificate 1") is) in cc
        (joined 10 bytes (first ∷ second ∷ line ∷ rest) f)

    claim : (first : List ℕ) (rest : List (List ℕ)) → bytes_eq first (codes "certificate 1") ≡ true
        → parts 10 bytes ≡ first ∷ rest → claim_behind rest ≡ Ok c → codes "certificate 1"
        ++ 10 ∷ (claim_text c.claim ++ 10 ∷ (landing_lines c.landings ++ state_lines c.states)) ≡ bytes
    claim first rest is f e = grind (arith, body)

    head : (lines : List (List ℕ)) → parts 10 bytes ≡ lines → certificate_by lines ≡ Ok c
        → codes "certificate 1" ++ 10 ∷ (claim_text c.claim
        ++ 10 ∷ (landing_lines c.landings ++ state_lines c.states)) ≡ bytes
    head lines f e = grind (arith, claim)

pub prints_if_read : (bytes : List ℕ) (r : Result Cert CertFault) → Gives memory_fault r (certificate_of bytes)
    → IfOk r (λ c. certificate_text c ≡ bytes)
prints_if_read bytes r g = grind (arith, prints_back)
