-- What is printed reads back: numbers and callsigns, and parts without their mark.
use Rattle.std.proofs.Common.{◌≡◌, ℕ, zero, suc, ◌<◌, ◌≤◌, ◌^◌, Bool, true, false, cond, ltb, eqb, not, ◌||◌, ◌⊎◌}
use Rattle.std.proofs.Common.{List, [], ◌∷◌, ◌++◌, length, get_or, Some, Ok, Err, refl, ap, subst, arith, inl, inr}
use Rattle.std.specs.Prelude.{◌==◌, All, decimal}
use Rattle.std.specs.List.{list_all}
use Rattle.std.specs.Char.{is_ascii_digit}
use Rattle.std.specs.Str.Parse.{digits_value}
use Rattle.std.specs.Str.Parse.{AllDigits}
use Rattle.std.proofs.lemmas.Str.Parse.{digit_at}
use Rattle.std.proofs.lemmas.List.{get_or_default}
use Rattle.std.proofs.lemmas.Bool.{and_from, and_parts, le-leb, le-ltb, lt-ltb, ne_eqb, not-true, or_right}
use Rattle.cps_base.specs.declared.number.NumberFault.TheVariants.{NotNumber, Below, Above}
use Rattle.std.proofs.lemmas.Fmt.{decimal_is_IsNumeral, decimal_digit, first_decimal}
use Rattle.std.proofs.lemmas.List.Splits.{slice_split_at, slice_split_none}
use Rattle.cps_base.specs.Number.{number_within, is_number}
use Rattle.std.proofs.lemmas.List.Elements.{All-cons}
use Rattle.cps_base.specs.Text.{is_callsign, is_callsign_byte}
use Rattle.texts.specs.Parts.{number_in, ok_of, parts}

-- a text without the mark
abbrev pub Lacks : ℕ → List ℕ → Type 0
Lacks mark text = All (λ b. (b == mark) ≡ false) text

pub cut : (mark : ℕ) (a b : List ℕ) → Lacks mark a → (mark == mark) ≡ true
    → parts mark (a ++ mark ∷ b) ≡ a ∷ parts mark b
cut mark a b h e = slice_split_at (λ x. x == mark) a mark b h e

pub uncut : (mark : ℕ) (a : List ℕ) → Lacks mark a → parts mark a ≡ a ∷ []
uncut mark a h = slice_split_none (λ x. x == mark) a h

-- ---- numbers

all_digits : (ds : List ℕ) → AllDigits 10 ds → list_all is_ascii_digit ds ≡ true
all_digits [] h = refl
all_digits (d ∷ ds) h =
    let r = digit_at (d ∷ ds) 0 h (omega arith) in
    let here : is_ascii_digit d ≡ true = rw (le-leb 48 d r.0, le-leb d 57 r.1) refl in
    rw here (all_digits ds h.1)

-- a number as printed is one as read
pub is_numeral : (n : ℕ) → n < 2 ^ 64 → is_number (decimal n) ≡ true
is_numeral n fits =
    let d = decimal_is_IsNumeral n fits in
    let some = lt-ltb 0 (length (decimal n)) d.0.0 in
    let all = all_digits (decimal n) d.0.1 in
    let one : eqb (length (decimal n)) 1 || not (eqb (get_or (decimal n) 0 0) 48) ≡ true = go n fits in
    and_from _ _ (and_from _ _ some one) all
  where
    go : (n : ℕ) → n < 2 ^ 64 → eqb (length (decimal n)) 1 || not (eqb (get_or (decimal n) 0 0) 48) ≡ true
    go zero fits = ap (λ (ds : List ℕ). eqb (length ds) 1 || not (eqb (get_or ds 0 0) 48))
        (decimal_digit 0 (omega arith))
    go (suc n) fits =
        let f = first_decimal (suc n) (omega arith) fits in
        or_right (eqb (length (decimal (suc n))) 1) (not (eqb (get_or (decimal (suc n)) 0 0) 48))
        (ap not (ne_eqb (get_or (decimal (suc n)) 0 0) 48 (λ e. omega arith)))

pub decimal_reads : (n least most : ℕ) → n < 2 ^ 64 → least ≤ n → n ≤ most → number_in (decimal n) least most ≡ Some n
unfolding number_in number_within
decimal_reads n least most fits low high =
    let same = (decimal_is_IsNumeral n fits).1 in
    go (is_number (decimal n)) (digits_value 10 (decimal n)) (is_numeral n fits) same
  where
    go : (a : Bool) (v : ℕ) → a ≡ true → v ≡ n
        → ok_of (cond (not a) (Err NotNumber)
        (cond (ltb v least) (Err Below) (cond (ltb most v) (Err Above) (Ok v)))) ≡ Some n
    go a v p q = rw (p, q, le-ltb n least low, le-ltb most n high) refl

pub decimal_lacks : (n mark : ℕ) → n < 2 ^ 64 → (mark < 48) ⊎ (57 < mark) → Lacks mark (decimal n)
decimal_lacks n mark fits out =
    let d = decimal_is_IsNumeral n fits in
    λ k x lt. let r = digit_at (decimal n) k d.0.1 lt in let e = get_or_default (decimal n) k x 0 lt in
    ne_eqb (get_or (decimal n) k x) mark
    (λ same. elim out [ inl a ↦ omega (arith, r.0, r.1) | inr a ↦ omega (arith, r.0, r.1) ])

-- by a test that computes
pub lacks_by : (mark : ℕ) (a : List ℕ) → list_all (λ b. not (b == mark)) a ≡ true → Lacks mark a
lacks_by mark [] e = λ k d lt. absurd (omega arith)
lacks_by mark (x ∷ a) e =
    let h = and_parts (not (x == mark)) (list_all (λ b. not (b == mark)) a) e in
    All-cons (λ b. (b == mark) ≡ false) x a (not-true (x == mark) h.0) (lacks_by mark a h.1)

-- ---- callsigns

-- a callsign lacks each mark that none of its bytes may be
pub callsign_lacks : (mark : ℕ) (text : List ℕ) → is_callsign_byte mark ≡ false → is_callsign text ≡ true
    → Lacks mark text
callsign_lacks mark text never e = go text (and_parts _ (list_all is_callsign_byte text) e).1
  where
    other : (b : ℕ) → is_callsign_byte b ≡ true → (b == mark) ≡ false
    other b h = ne_eqb b mark (λ same. let x : is_callsign_byte mark ≡ true =
        subst (λ (y : ℕ). is_callsign_byte y ≡ true) same h in cc)

    go : (text : List ℕ) → list_all is_callsign_byte text ≡ true → Lacks mark text
    go [] e = λ k d lt. absurd (omega arith)
    go (b ∷ text) e =
        let h = and_parts (is_callsign_byte b) (list_all is_callsign_byte text) e in
        All-cons (λ x. (x == mark) ≡ false) b text (other b h.0) (go text h.1)
