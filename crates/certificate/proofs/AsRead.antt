-- What a text reads as prints back as the text.
use Rattle.std.proofs.Common.{rules, ◌≡◌, ℕ, ◌<◌, ◌^◌, Bool, true, ltb, eqb, not, ◌&&◌, ◌||◌, List, [], ◌∷◌}
use Rattle.std.proofs.Common.{◌++◌, length, get_or, map, Some, refl, arith}
use Rattle.std.specs.Prelude.{codes, decimal, bytes_eq, option_map, option_and_then}
use Rattle.std.specs.List.{list_all, join_with_byte}
use Rattle.std.specs.Char.{is_ascii_digit}
use Rattle.std.specs.Str.{all_ascii_digits}
use Rattle.std.specs.Str.Parse.{digits_value}
use Rattle.std.proofs.lemmas.Str.Parse.{numerals_by_value, tells_all_ascii_digits}
use Rattle.std.proofs.lemmas.Fmt.{decimal-digits_value}
use Rattle.std.proofs.lemmas.Bool.{ltb-true, and_parts}
use Rattle.std.proofs.lemmas.Option.{cond_some}
use Rattle.std.proofs.lemmas.Grind.{common_steps}
use Rattle.std.proofs.lemmas.List.Splits.{join_with_byte-slice_split}
use Rattle.cps_base.specs.Limits.{greatest_value, greatest_word}
use Rattle.cps_base.specs.Number.{number_within, is_number}
use Rattle.cps_base.specs.Text.{is_callsign}
use Rattle.landing_rules.specs.Rules.{last_second}
use Rattle.texts.specs.Parts.{callsign_in, number_in, parts}
use Rattle.certificate.specs.declared.certificate.Claim.{Claim}
use Rattle.certificate.specs.declared.certificate.Claim.TheVariants.{Optimal, Infeasible}
use Rattle.certificate.specs.States.{Pair, State}
use Rattle.certificate.specs.Lines.{digit_of, is_digit, are_pattern_digits, pattern_in, pair_in, pair_by, pairs_in}
use Rattle.certificate.specs.Lines.{state_in, state_by, state_from, landing_in, landing_by, claim_in, claim_by}
use Rattle.certificate.specs.Spelling.{digit_text, pattern_text, pair_text, pairs_text, state_text, landing_text}
use Rattle.certificate.specs.Spelling.{claim_text}
use Rattle.certificate.proofs.Valid.{then_some, map_some, passed_then}

-- the parts of a text, joined, are the text
pub joined : (mark : ℕ) (text : List ℕ) (fields : List (List ℕ)) → parts mark text ≡ fields
    → join_with_byte mark fields ≡ text
joined mark text fields e = cc (join_with_byte-slice_split mark text)

pub same_text : (a b : List ℕ) → bytes_eq a b ≡ true → a ≡ b
same_text a b e = search rules

-- ---- numbers

ascii_digits : (text : List ℕ) → list_all is_ascii_digit text ≡ true → all_ascii_digits text ≡ true
ascii_digits text e = grind arith

numeral : (text : List ℕ) → is_number text ≡ true → digits_value 10 text < 2 ^ 64
    → decimal (digits_value 10 text) ≡ text
numeral text e small =
    let h = and_parts _ (list_all is_ascii_digit text) e in
    let k = and_parts (ltb 0 (length text)) (eqb (length text) 1 || not (eqb (get_or text 0 0) 48)) h.0 in
    decimal-digits_value (numerals_by_value _ tells_all_ascii_digits) text (ascii_digits text h.1)
    (ltb-true 0 (length text) k.0) (λ z. let t = k.1 in grind (arith, common_steps)) small

pub number_printed : (text : List ℕ) (least most n : ℕ) → most < 2 ^ 64 → number_in text least most ≡ Some n
    → decimal n ≡ text
unfolding number_in number_within
number_printed text least most n fits e = search (rules, numeral)

-- ---- pairs

pub pair_printed : (text : List ℕ) (p : Pair) → pair_in text ≡ Some p → pair_text p ≡ text
unfolding pair_in
pair_printed text p e = go (parts 58 text) refl e
  where
    go : (fields : List (List ℕ)) → parts 58 text ≡ fields → pair_by fields ≡ Some p → pair_text p ≡ text
    go (a ∷ b ∷ []) f e =
        let t = then_some (number_in a 0 last_second) _ p e in
        let c = map_some (number_in b 0 greatest_word) _ p t.2 in
        let second = number_printed a 0 last_second t.0 (omega arith) t.1 in
        let cost = number_printed b 0 greatest_word c.0 (omega arith) c.1 in cc (joined 58 text (a ∷ b ∷ []) f)
    go fields f e = absurd cc

-- the parts behind a first one
pub pairs_printed : (a : List ℕ) (ps : List (List ℕ)) (xs : List Pair) → pairs_in ps ≡ Some xs
    → a ++ pairs_text xs ≡ join_with_byte 32 (a ∷ ps)
unfolding pairs_in
pairs_printed a [] xs e = search rules
pairs_printed a (p ∷ ps) xs e =
    let x = then_some (pair_in p) _ xs e in
    let more = map_some (pairs_in ps) _ xs x.2 in
    let first = pair_printed p x.0 x.1 in
    let rest = pairs_printed p ps more.0 more.1 in search rules

-- ---- patterns

digits_printed : (text : List ℕ) → list_all is_digit text ≡ true → map digit_text (map digit_of text) ≡ text
digits_printed [] e = refl
digits_printed (b ∷ text) e = grind (arith, digits_printed text (and_parts (is_digit b) (list_all is_digit text) e).1)

some_digits : (text : List ℕ) → are_pattern_digits text ≡ true → pattern_text (map digit_of text) ≡ text
some_digits [] e = absurd cc
some_digits (b ∷ text) e = search (rules, digits_printed)

pub pattern_printed : (text : List ℕ) (ds : List Bool) → pattern_in text ≡ Some ds → pattern_text ds ≡ text
unfolding pattern_in
pattern_printed text ds e = search (rules, some_digits)

-- ---- lines

state_from_printed : (stage pattern last : List ℕ) (pairs : List (List ℕ)) (s : State)
    → state_from stage pattern last pairs ≡ Some s → state_text s ≡ codes "state"
    ++ 32 ∷ join_with_byte 32 (stage ∷ pattern ∷ last ∷ pairs)
unfolding state_from
state_from_printed stage pattern last pairs s e = search (rules, number_printed, pattern_printed, pairs_printed)

pub state_printed : (line : List ℕ) (s : State) → state_in line ≡ Some s → state_text s ≡ line
unfolding state_in state_by
state_printed line s e = go (parts 32 line) refl e
  where
    go : (fields : List (List ℕ)) → parts 32 line ≡ fields → state_by fields ≡ Some s → state_text s ≡ line
    go (word ∷ stage ∷ pattern ∷ last ∷ pairs) f e =
        let o = passed_then _ _ s e in cc (
          same_text word (codes "state") o.0,
          state_from_printed stage pattern last pairs s o.1,
          joined 32 line
              (word ∷ stage ∷ pattern ∷ last ∷ pairs) f,
        )
    go fields f e = absurd cc

pub landing_printed : (line : List ℕ) (l : List ℕ × ℕ) → landing_in line ≡ Some l → landing_text l ≡ line
unfolding landing_in landing_by
landing_printed line l e = go (parts 32 line) refl e
  where
    go : (fields : List (List ℕ)) → parts 32 line ≡ fields → landing_by fields ≡ Some l → landing_text l ≡ line
    go (word ∷ name ∷ second ∷ []) f e =
        let o = passed_then (bytes_eq word (codes "land"))
        (option_and_then (λ c. option_map (λ t. (c, t)) (number_in second 0 last_second)) (callsign_in name)) l e in
        let c = then_some (callsign_in name) (λ c. option_map (λ t. (c, t)) (number_in second 0 last_second)) l o.1 in
        let n = cond_some (is_callsign name) name c.0 c.1 in
        let t = map_some (number_in second 0 last_second) (λ t. (c.0, t)) l c.2 in cc (
          number_printed second 0 last_second t.0 (omega arith) t.1,
          same_text word (codes "land") o.0,
          joined 32
              line (word ∷ name ∷ second ∷ []) f,
        )
    go fields f e = absurd cc

pub claim_printed : (line : List ℕ) (c : Claim) → claim_in line ≡ Some c → claim_text c ≡ line
unfolding claim_in claim_by
claim_printed line c e = go (parts 32 line) refl e
  where
    go : (fields : List (List ℕ)) → parts 32 line ≡ fields → claim_by fields ≡ Some c → claim_text c ≡ line
    go (word ∷ kind ∷ []) f e =
        let w = and_parts (bytes_eq word (codes "claim")) (bytes_eq kind (codes "infeasible"))
        (cond_some (bytes_eq word (codes "claim") && bytes_eq kind (codes "infeasible")) Infeasible c e).0 in
        let a = same_text word (codes "claim") w.0 in
        let b = same_text kind (codes "infeasible") w.1 in cc (joined 32 line (word ∷ kind ∷ []) f)
    go (word ∷ kind ∷ value ∷ []) f e =
        let o = passed_then (bytes_eq word (codes "claim") && bytes_eq kind (codes "optimal")) _ c e in
        let w = and_parts (bytes_eq word (codes "claim")) (bytes_eq kind (codes "optimal")) o.0 in
        let a = same_text word (codes "claim") w.0 in
        let b = same_text kind (codes "optimal") w.1 in
        let v = map_some (number_in value 0 greatest_value) Optimal c o.1 in
        let n = number_printed value 0 greatest_value v.0 (omega arith) v.1 in grind
        (arith, joined 32 line (word ∷ kind ∷ value ∷ []) f)
    go fields f e = absurd cc
