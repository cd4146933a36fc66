-- What is printed reads back.
use Rattle.std.proofs.Common.{rules, ◌≡◌, ℕ, ◌≤◌, Bool, true, false, leb, not, List, [], ◌∷◌, ◌++◌, length, map, Some}
use Rattle.std.proofs.Common.{None, refl, arith}
use Rattle.std.proofs.lemmas.Grind.{common_steps}
use Rattle.std.specs.Prelude.{◌==◌, codes, decimal}
use Rattle.std.specs.List.{list_all}
use Rattle.std.proofs.lemmas.Bool.{leb-true, and_parts}
use Rattle.std.proofs.lemmas.List.{length-map, append-nil}
use Rattle.cps_base.specs.Limits.{greatest_word}
use Rattle.cps_base.specs.Text.{is_callsign}
use Rattle.landing_rules.specs.Rules.{last_second}
use Rattle.texts.specs.Parts.{parts}
use Rattle.texts.specs.shared.Printed.{Lacks, callsign_lacks, cut, decimal_lacks, decimal_reads, lacks_by, uncut}
use Rattle.certificate.specs.declared.certificate.Claim.{Claim}
use Rattle.certificate.specs.Reading.{IsClaim}
use Rattle.certificate.specs.Patterns.{is_pattern_length}
use Rattle.certificate.specs.States.{Pair, State, IsState, is_pair}
use Rattle.certificate.specs.Lines.{digit_of, is_digit, are_pattern_digits, pattern_in, pair_in, pairs_in, state_in}
use Rattle.certificate.specs.Lines.{state_by, state_from, landing_in, landing_by, claim_in, claim_by}
use Rattle.certificate.specs.Spelling.{digit_text, pattern_text, pair_text, pairs_text, state_text, landing_text}
use Rattle.certificate.specs.Spelling.{claim_text}

-- ---- pairs

pub pair_reads : (p : Pair) → p.0 ≤ last_second → p.1 ≤ greatest_word → pair_in (pair_text p) ≡ Some p
unfolding pair_in
pair_reads p a b = search (rules, cut, decimal_lacks, uncut, decimal_reads)

-- ---- a line of fields

pub pair_lacks : (p : Pair) → p.0 ≤ last_second → p.1 ≤ greatest_word → Lacks 32 (pair_text p)
pair_lacks p a b = grind (arith, common_steps, decimal_lacks)

abbrev pub ArePairs : List Pair → Type 0
ArePairs [] = Unit {0}
ArePairs (p ∷ ps) = (p.0 ≤ last_second) × (p.1 ≤ greatest_word) × ArePairs ps

pub fields_of : (a : List ℕ) (ps : List Pair) → Lacks 32 a → ArePairs ps
    → parts 32 (a ++ pairs_text ps) ≡ a ∷ map pair_text ps
fields_of a [] h k = simp (append-nil, uncut)
fields_of a (p ∷ ps) h k = simp (cut, fields_of (pair_text p) ps (pair_lacks p k.0 k.1) k.2)

pub pairs_read : (ps : List Pair) → ArePairs ps → pairs_in (map pair_text ps) ≡ Some ps
unfolding pairs_in
pairs_read [] k = refl
pairs_read (p ∷ ps) k = rw (pair_reads p k.0 k.1, pairs_read ps k.2) refl

-- ---- patterns

digit_back : (ds : List Bool) → map digit_of (map digit_text ds) ≡ ds
digit_back [] = refl
digit_back (true ∷ ds) = cc (digit_back ds)
digit_back (false ∷ ds) = cc (digit_back ds)

all_digits : (ds : List Bool) → list_all is_digit (map digit_text ds) ≡ true
all_digits [] = refl
all_digits (true ∷ ds) = all_digits ds
all_digits (false ∷ ds) = all_digits ds

no_blank : (ds : List Bool) → list_all (λ b. not (b == 32)) (map digit_text ds) ≡ true
no_blank [] = refl
no_blank (true ∷ ds) = no_blank ds
no_blank (false ∷ ds) = no_blank ds

digits_are : (d : Bool) (ds : List Bool) → is_pattern_length (length (d ∷ ds)) ≡ true
    → are_pattern_digits (map digit_text (d ∷ ds)) ≡ true
digits_are d ds size = search (rules, length-map, all_digits)

pub pattern_reads : (ds : List Bool) → is_pattern_length (length ds) ≡ true → pattern_in (pattern_text ds) ≡ Some ds
unfolding pattern_in
pattern_reads ds size = grind (arith, digits_are, digit_back)

pattern_lacks : (ds : List Bool) → Lacks 32 (pattern_text ds)
pattern_lacks [] = search rules
pattern_lacks (d ∷ ds) = search (rules, lacks_by, no_blank)

-- ---- states

pub in_ranges : (ps : List Pair) → list_all is_pair ps ≡ true → ArePairs ps
in_ranges [] e = tt
in_ranges (p ∷ ps) e =
    let h = and_parts (is_pair p) (list_all is_pair ps) e in
    let r = and_parts (leb p.0 last_second) (leb p.1 greatest_word) h.0 in
    (leb-true p.0 last_second r.0, leb-true p.1 greatest_word r.1, in_ranges ps h.1)

state_fields : (s : State) → IsState s → parts 32 (state_text s) ≡ codes "state" ∷ decimal s.stage
    ∷ pattern_text s.pattern ∷ decimal s.last ∷ map pair_text s.pairs
state_fields s h = search (rules, cut, decimal_lacks, pattern_lacks, fields_of, in_ranges)

-- a state that is printed reads back
pub state_reads : (s : State) → IsState s → state_in (state_text s) ≡ Some s
unfolding state_in state_by state_from
state_reads s h = search (rules, state_fields, decimal_reads, pattern_reads, pairs_read, in_ranges)

-- ---- landings and claims

landing_fields : (l : List ℕ × ℕ) → is_callsign l.0 ≡ true → l.1 ≤ last_second
    → parts 32 (landing_text l) ≡ codes "land" ∷ l.0 ∷ decimal l.1 ∷ []
landing_fields l c t = search (rules, cut, callsign_lacks, uncut, decimal_lacks)

-- a landing that is printed reads back, and is no state
pub landing_reads : (l : List ℕ × ℕ) → is_callsign l.0 ≡ true → l.1 ≤ last_second → landing_in (landing_text l) ≡ Some l
unfolding landing_in landing_by
landing_reads l c t = search (rules, landing_fields, decimal_reads)

pub landing_no_state : (l : List ℕ × ℕ) → is_callsign l.0 ≡ true → l.1 ≤ last_second → state_in (landing_text l) ≡ None
unfolding state_in state_by
landing_no_state l c t = search rules

pub claim_reads : (c : Claim) → IsClaim c → claim_in (claim_text c) ≡ Some c
unfolding claim_in claim_by
claim_reads c h = grind (arith, uncut, decimal_lacks, decimal_reads)
