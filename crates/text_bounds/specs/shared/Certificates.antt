-- How long the lines of a certificate are.
use Rattle.std.proofs.Common.{rules, ◌≡◌, ℕ, ◌+◌, ◌*◌, ◌≤◌, List, [], ◌∷◌, length, true, Bool, arith}
use Rattle.std.proofs.lemmas.Grind.{common_steps}
use Rattle.std.specs.Prelude.{decimal, nat_le}
use Rattle.std.specs.List.{list_all}
use Rattle.std.proofs.lemmas.Bool.{and_parts}
use Rattle.std.proofs.lemmas.Bool.Decides.{nat_tests}
use Rattle.std.proofs.lemmas.Fmt.{length-decimal-le}
use Rattle.std.proofs.lemmas.List.{length-append, length-map}
use Rattle.std.proofs.lemmas.List.Sums.{sum_by-cons}
use Rattle.cps_base.specs.Limits.{greatest_word}
use Rattle.certificate.specs.declared.certificate.Claim.{Claim}
use Rattle.certificate.specs.Patterns.{is_pattern_length}
use Rattle.certificate.specs.States.{AreStates, IsState, Pair, State, is_pair, is_second}
use Rattle.certificate.specs.Reading.{AreLandings, IsClaim}
use Rattle.certificate.specs.Spelling.{claim_text, landing_lines, landing_text, pair_text, pairs_text}
use Rattle.certificate.specs.Spelling.{pattern_text, state_lines, state_text}
use Rattle.landing_rules.specs.Rules.{last_second}
use Rattle.text_bounds.specs.Certificates.{CertificateIsBoundedLaw, pair_count}
use Rattle.text_bounds.specs.shared.Lengths.{callsign_short, rank_short, second_short, value_short}

claim_short : (c : Claim) → IsClaim c → length (claim_text c) ≤ 24
claim_short c h = grind (arith, value_short)

landing_short : (l : List ℕ × ℕ) → length l.0 ≤ 8 → length (decimal l.1) ≤ 6 → length (landing_text l) ≤ 20
landing_short l name second = grind (arith, common_steps)

landings_short : (ls : List (List ℕ × ℕ)) → AreLandings ls → length (landing_lines ls) ≤ 21 * length ls
landings_short [] h = omega arith
landings_short (l ∷ ls) h =
    let one = landing_short l (callsign_short l.0 h.0) (second_short l.1 h.1) in
    omega (arith, one, landings_short ls h.2, length-append (landing_text l) (10 ∷ landing_lines ls))

pattern_short : (ds : List Bool) → is_pattern_length (length ds) ≡ true → length (pattern_text ds) ≤ 6
pattern_short ds e = search (rules, length-map)

pair_short : (p : Pair) → is_pair p ≡ true → length (pair_text p) ≤ 17
pair_short p h =
    let both = and_parts (is_second p.0) (nat_le p.1 greatest_word) h in
    let t : p.0 ≤ last_second = grind (arith, nat_tests, both.0) in
    let c : p.1 ≤ greatest_word = grind (arith, nat_tests, both.1) in
    let b = length-decimal-le 10 p.1 (omega arith) (omega (arith, c)) (omega (arith, c)) in
    omega (arith, second_short p.0 t, length-append (decimal p.0) (58 ∷ decimal p.1))

pairs_short : (ps : List Pair) → list_all is_pair ps ≡ true → length (pairs_text ps) ≤ 18 * length ps
pairs_short [] h = omega arith
pairs_short (p ∷ ps) h =
    let here = and_parts (is_pair p) (list_all is_pair ps) h in
    let one = pair_short p here.0 in
    omega (arith, pairs_short ps here.1, length-append (pair_text p) (pairs_text ps))

state_short : (s : State) → IsState s → length (state_text s) ≤ 18 + 18 * length s.pairs
state_short s h = grind (arith, rank_short, pairs_short, length-append, decimal, pattern_short)

states_short : (ss : List State) → AreStates ss → length (state_lines ss) ≤ 19 * length ss + 18 * pair_count ss
states_short [] h = omega arith
states_short (s ∷ ss) h = grind (arith, common_steps, state_short, sum_by-cons, length-append, states_short ss h.1)

pub certificate_short : CertificateIsBoundedLaw
certificate_short c h = grind (arith, claim_short, length-append, landings_short, states_short)
