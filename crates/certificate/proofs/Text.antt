-- The text of a certificate is cut into its lines, and reads back.
use Rattle.std.proofs.Common.{rules, ◌≡◌, ℕ, ◌<◌, ◌≤◌, ◌^◌, Bool, true, false, not, List, [], ◌∷◌, ◌++◌, map, Ok, refl}
use Rattle.std.proofs.Common.{arith}
use Rattle.std.proofs.lemmas.Grind.{common_steps}
use Rattle.std.specs.Prelude.{◌==◌, codes, decimal}
use Rattle.std.specs.List.{list_all}
use Rattle.std.proofs.lemmas.List.Elements.{All-append, All-cons}
use Rattle.cps_base.specs.Limits.{greatest_word}
use Rattle.cps_base.specs.Text.{is_callsign}
use Rattle.landing_rules.specs.Rules.{last_second}
use Rattle.texts.specs.Parts.{parts}
use Rattle.texts.specs.shared.Printed.{Lacks, callsign_lacks, cut, decimal_lacks, lacks_by}
use Rattle.certificate.specs.declared.certificate.Claim.{Claim}
use Rattle.certificate.specs.States.{Pair, State, IsState, AreStates}
use Rattle.certificate.specs.Reading.{Cert, IsClaim, AreLandings, IsCertificate, body_lines, certificate_by}
use Rattle.certificate.specs.Reading.{certificate_of}
use Rattle.certificate.specs.Spelling.{digit_text, pattern_text, pair_text, pairs_text, state_text, landing_text}
use Rattle.certificate.specs.Spelling.{claim_text, landing_lines, state_lines, certificate_text}
use Rattle.certificate.proofs.Again.{in_ranges, ArePairs, claim_reads}
use Rattle.certificate.proofs.Whole.{lines_all, body_back}

abbrev test : ℕ → Type 0
test b = (b == 10) ≡ false

number : (n : ℕ) → n < 2 ^ 64 → Lacks 10 (decimal n)
number n h = search (rules, decimal_lacks)

-- two texts round another byte
join : (m : ℕ) (a b : List ℕ) → test m → Lacks 10 a → Lacks 10 b → Lacks 10 (a ++ m ∷ b)
join m a b e h k = All-append test a (m ∷ b) h (All-cons test m b e k)

pair : (p : Pair) → p.0 ≤ last_second → p.1 ≤ greatest_word → Lacks 10 (pair_text p)
pair p a b = search (rules, join, number)

pairs : (ps : List Pair) → ArePairs ps → Lacks 10 (pairs_text ps)
pairs [] k = search rules
pairs (p ∷ ps) k = search (rules, All-cons, All-append, pair, pairs ps k.2)

no_end : (ds : List Bool) → list_all (λ b. not (b == 10)) (map digit_text ds) ≡ true
no_end [] = refl
no_end (true ∷ ds) = no_end ds
no_end (false ∷ ds) = no_end ds

pattern_line : (ds : List Bool) → Lacks 10 (pattern_text ds)
pattern_line [] = search rules
pattern_line (d ∷ ds) = search (rules, lacks_by, no_end)

state_lacks : (s : State) → IsState s → Lacks 10 (state_text s)
state_lacks s h =
    join 32 (codes "state") (decimal s.stage
    ++ 32 ∷ (pattern_text s.pattern ++ 32 ∷ (decimal s.last ++ pairs_text s.pairs))) refl
    (lacks_by 10 (codes "state") refl)
    (join 32 (decimal s.stage) (pattern_text s.pattern ++ 32 ∷ (decimal s.last ++ pairs_text s.pairs)) refl
    (number s.stage (let x = h.stage.1 in omega arith))
    (join 32 (pattern_text s.pattern) (decimal s.last ++ pairs_text s.pairs) refl (pattern_line s.pattern)
    (All-append test (decimal s.last) (pairs_text s.pairs) (number s.last (let x = h.last.1 in omega arith))
    (pairs s.pairs (in_ranges s.pairs h.pairs)))))

landing_lacks : (l : List ℕ × ℕ) → is_callsign l.0 ≡ true → l.1 ≤ last_second → Lacks 10 (landing_text l)
landing_lacks l c t = search (rules, join, callsign_lacks, number)

claim_lacks : (c : Claim) → IsClaim c → Lacks 10 (claim_text c)
claim_lacks c h = grind (arith, number)

state_parts : (ss : List State) → AreStates ss → parts 10 (state_lines ss) ≡ map state_text ss ++ [] ∷ []
state_parts [] h = refl
state_parts (s ∷ ss) h = search (rules, cut, state_lacks, state_parts ss h.1)

body_parts : (ls : List (List ℕ × ℕ)) (ss : List State) → AreLandings ls → AreStates ss
    → parts 10 (landing_lines ls ++ state_lines ss) ≡ map landing_text ls ++ (map state_text ss ++ [] ∷ [])
body_parts [] ss hl h = state_parts ss h
body_parts (l ∷ ls) ss hl h =
    grind (
      arith,
      common_steps,
      body_parts ls ss hl.2 h,
      cut 10 (landing_text l)
          (landing_lines ls ++ state_lines ss) (landing_lacks l hl.0 hl.1) refl,
    )

as_lines : (c : Claim) (ls : List (List ℕ × ℕ)) (ss : List State) (x : Cert)
    → lines_all 3 c ([], []) (map landing_text ls ++ (map state_text ss ++ [] ∷ [])) ≡ Ok x
    → body_lines c (map landing_text ls ++ (map state_text ss ++ [] ∷ [])) ≡ Ok x
as_lines c ls ss x e = grind arith

-- reading what is printed gives the certificate again
pub reads_back : (c : Cert) → IsCertificate c → certificate_of (certificate_text c) ≡ Ok c
unfolding certificate_of certificate_by
reads_back c h = search (rules, cut, claim_lacks, body_parts, as_lines, body_back, claim_reads)
