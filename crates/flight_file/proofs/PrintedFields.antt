-- Each printed field reads as what was printed.
use Rattle.std.proofs.Common.{◌≡◌, ℕ, ◌+◌, ◌<◌, ◌≤◌, List, [], ◌∷◌, ◌++◌, true, false, length, Ok, Some}
use Rattle.std.proofs.Common.{refl, sym, ap, arith, rules, append_assoc, length-append}
use Rattle.std.specs.Prelude.{◌==◌, ◌^◌, map, decimal, nat_lt}
use Rattle.std.specs.List.{join_with_byte, list_all}
use Rattle.std.specs.Char.{is_ascii_digit}
use Rattle.std.specs.Str.Parse.{digits_value}
use Rattle.std.proofs.lemmas.Bool.{ne_eqb, and_parts}
use Rattle.std.proofs.lemmas.Bool.Decides.{nat_tests}
use Rattle.std.proofs.lemmas.Grind.{common_steps}
use Rattle.std.proofs.lemmas.List.{append-nil}
use Rattle.std.proofs.lemmas.Fmt.{digits_decimal, digits_value-decimal}
use Rattle.std.proofs.lemmas.Str.Parse.{IsNumeralModel, numerals_by_value}
use Rattle.cps_base.specs.Text.{is_callsign, is_callsign_byte}
use Rattle.cps_base.specs.Number.{number_within}
use Rattle.landing_rules.specs.Rules.{last_second}
use Rattle.wake_table.specs.declared.category.Category.{Category}
use Rattle.wake_table.specs.Letters.{letter, category_of}
use Rattle.landing_windows.specs.Windows.{windows_of}
use Rattle.texts.specs.Parts.{parts}
use Rattle.texts.specs.shared.Printed.{is_numeral}
use Rattle.texts.specs.shared.Joins.{IsWithout, AreWithout, IsWithout-append, parts-before, parts-one, parts-join}
use Rattle.csv_records.specs.PlainLaw.{AreHigh, AreHigh-append}
use Rattle.flight_file.specs.Windows.{second_in, window_in, windows_from, windows_in}
use Rattle.flight_file.specs.After.{names_from, names_in}
use Rattle.flight_file.specs.Printed.{window_text, windows_text, names_text}
use Rattle.flight_file.proofs.Printable.{AreInDays, AreNewNames}
use Rattle.flight_file.proofs.PrintedParts.{windows_join, names_join, windows_joined, names_joined}

abbrev pub AreDigits : List ℕ → Type 0
AreDigits ds = list_all is_ascii_digit ds ≡ true

own : IsNumeralModel AreDigits (digits_value 10)
own = numerals_by_value AreDigits (search rules)

pub decimal_digits : (n : ℕ) → n < 2 ^ 64 → AreDigits (decimal n)
decimal_digits n h = digits_decimal own n h

digit_low : (b : ℕ) → is_ascii_digit b ≡ true → 48 ≤ b
digit_low b e = grind (arith, common_steps)

digit_top : (b : ℕ) → is_ascii_digit b ≡ true → b ≤ 57
digit_top b e = grind (arith, common_steps)

pub high_digits : (ds : List ℕ) → AreDigits ds → AreHigh ds
high_digits [] h = tt
high_digits (d ∷ ds) h =
    let low = digit_low d (and_parts _ _ h).0 in
    (omega (arith, low), high_digits ds (and_parts _ _ h).1)

pub digits_without : (mark : ℕ) (ds : List ℕ) → (mark < 48) → AreDigits ds → IsWithout mark ds
digits_without mark [] m h = tt
digits_without mark (d ∷ ds) m h =
    let low = digit_low d (and_parts _ _ h).0 in
    (ne_eqb d mark (λ e. omega (arith, low, e, m)), digits_without mark ds m (and_parts _ _ h).1)

pub digits_without_top : (mark : ℕ) (ds : List ℕ) → (57 < mark) → AreDigits ds → IsWithout mark ds
digits_without_top mark [] m h = tt
digits_without_top mark (d ∷ ds) m h =
    let top = digit_top d (and_parts _ _ h).0 in
    (ne_eqb d mark (λ e. omega (arith, top, e, m)), digits_without_top mark ds m (and_parts _ _ h).1)

pub number_read : (n least most : ℕ) → n < 2 ^ 64 → least ≤ n → n ≤ most → number_within (decimal n) least most ≡ Ok n
unfolding number_within
number_read n least most h low top = grind (arith, digits_value, decimal, digits_value-decimal, own, is_numeral)

pub category_read : (c : Category) → category_of (letter c ∷ []) ≡ Some c
category_read c = grind arith

pub high_letter : (c : Category) → 45 ≤ letter c
high_letter c = grind arith

-- ---- windows

second_read : (i n : ℕ) → n ≤ last_second → second_in i (decimal n) ≡ Ok n
second_read i n h = grind (arith, number_read)

window_read : (i : ℕ) (w : ℕ × ℕ) → w.0 ≤ last_second → w.1 ≤ last_second → window_in i (window_text w) ≡ Ok w
unfolding window_in
window_read i w a b = grind (arith, decimal, decimal_digits, parts-before, digits_without, parts-one, second_read)

windows_read : (i : ℕ) (ws : List (ℕ × ℕ)) → AreInDays ws → windows_from i (map window_text ws) ≡ Ok ws
unfolding windows_from
windows_read i [] h = refl
windows_read i (w ∷ ws) h = rw (window_read i w h.0.0 h.0.1, windows_read (i + 1) ws h.1) refl

windows_without : (ws : List (ℕ × ℕ)) → AreInDays ws → AreWithout 59 (map window_text ws)
windows_without [] h = tt
windows_without (w ∷ ws) h =
    let first : AreDigits (decimal w.0) = decimal_digits w.0 (omega arith) in
    let last : AreDigits (decimal w.1) = decimal_digits w.1 (omega arith) in (
      IsWithout-append 59 (decimal w.0) (45 ∷ decimal w.1) (digits_without_top 59 (decimal w.0) (omega arith) first)
          (refl, digits_without_top 59 (decimal w.1) (omega arith) last),
      windows_without ws h.1,
    )

pub high_join : (p : List ℕ) (ps : List (List ℕ)) → AreHigh p → AreHigh (join_with_byte 59 ps)
    → AreHigh (join_with_byte 59 (p ∷ ps))
high_join p ps h more = grind (arith, AreHigh-append, join_with_byte)

pub high_windows : (ws : List (ℕ × ℕ)) → AreInDays ws → AreHigh (windows_join ws)
high_windows [] h = tt
high_windows (w ∷ ws) h =
    let first : AreDigits (decimal w.0) = decimal_digits w.0 (omega arith) in
    let last : AreDigits (decimal w.1) = decimal_digits w.1 (omega arith) in
    high_join (window_text w) (map window_text ws)
    (AreHigh-append (decimal w.0) (45 ∷ decimal w.1) (high_digits _ first) (omega arith, high_digits _ last))
    (high_windows ws h.1)

-- a text that has a part with a byte has one
join_some : (p : List ℕ) (ps : List (List ℕ)) → 0 < length p → 0 < length (join_with_byte 59 (p ∷ ps))
join_some p ps h = grind (arith, length-append, join_with_byte)

windows_some : (w : ℕ × ℕ) → 0 < length (window_text w)
windows_some w = grind (arith, common_steps)

few_windows : (ws : List (ℕ × ℕ)) → windows_of ws ≡ Ok ws → nat_lt 4 (length ws) ≡ false
unfolding windows_of
few_windows ws e = grind arith

length_windows : (ws : List (ℕ × ℕ)) → length (map window_text ws) ≡ length ws
length_windows ws = grind (arith, common_steps)

not_empty : (text : List ℕ) → 0 < length text → (length text == 0) ≡ false
not_empty text h = ne_eqb (length text) 0 (λ e. omega (arith, h, e))

pub windows_in_read : (ws : List (ℕ × ℕ)) → windows_of ws ≡ Ok ws → AreInDays ws → windows_in (windows_join ws) ≡ Ok ws
unfolding windows_in windows_of
windows_in_read [] e h = absurd (cc e)
windows_in_read (w ∷ ws) e h =
    let some = not_empty (windows_join (w ∷ ws)) (join_some (window_text w) (map window_text ws) (windows_some w)) in
    let cut : parts 59 (windows_join (w ∷ ws)) ≡ map window_text (w ∷ ws) =
    parts-join 59 (window_text w) (map window_text ws) (windows_without (w ∷ ws) h) refl in
    let few : nat_lt 4 (length (map window_text (w ∷ ws))) ≡ false =
    rw (length_windows (w ∷ ws)) (few_windows (w ∷ ws) e) in
    rw (some, cut, few, windows_read 1 (w ∷ ws) h, e) refl

-- ---- names

high_letters : (text : List ℕ) → list_all is_callsign_byte text ≡ true → AreHigh text
high_letters [] h = tt
high_letters (b ∷ rest) h = (search rules, high_letters rest (and_parts _ _ h).1)

letters_without : (text : List ℕ) → list_all is_callsign_byte text ≡ true → IsWithout 59 text
letters_without [] h = tt
letters_without (b ∷ rest) h = (search rules, letters_without rest (and_parts _ _ h).1)

pub high_callsign : (text : List ℕ) → is_callsign text ≡ true → AreHigh text
high_callsign text h = high_letters text (and_parts _ _ h).1

callsign_some : (text : List ℕ) → is_callsign text ≡ true → 0 < length text
callsign_some text h = grind arith

names_without : (me : List ℕ) (before names : List (List ℕ)) → AreNewNames me before names → AreWithout 59 names
names_without me before [] h = tt
names_without me before (n ∷ names) h =
    (letters_without n (and_parts _ _ h.0.0).1, names_without me (before ++ n ∷ []) names h.1)

pub high_names : (me : List ℕ) (before names : List (List ℕ)) → AreNewNames me before names → AreHigh (names_join names)
high_names me before [] h = tt
high_names me before (n ∷ names) h = search (high_join, high_callsign, high_names me (before ++ n ∷ []) names h.1)

names_read : (me : List ℕ) (i : ℕ) (before names : List (List ℕ)) → AreNewNames me before names
    → names_from me i before names ≡ Ok (before ++ names)
unfolding names_from
names_read me i before [] h = ap Ok (sym (append-nil before))
names_read me i before (n ∷ names) h = grind (arith, append_assoc, names_read me (i + 1) (before ++ n ∷ []) names h.1)

pub names_in_read : (me : List ℕ) (names : List (List ℕ)) → AreNewNames me [] names → length names ≤ 4
    → names_in me (names_join names) ≡ Ok names
unfolding names_in
names_in_read me [] h few = refl
names_in_read me (n ∷ names) h few =
    let some = not_empty (names_join (n ∷ names)) (join_some n names (callsign_some n h.0.0)) in
    let cut : parts 59 (names_join (n ∷ names)) ≡ n ∷ names =
    parts-join 59 n names (names_without me [] (n ∷ names) h) refl in
    let count : nat_lt 4 (length (n ∷ names)) ≡ false = grind (arith, nat_tests, common_steps) in
    rw (some, cut, count) (names_read me 1 [] (n ∷ names) h)

-- ---- as they are printed

pub windows_text_read : (ws : List (ℕ × ℕ)) → windows_of ws ≡ Ok ws → AreInDays ws
    → windows_in (windows_text ws) ≡ Ok ws
windows_text_read ws e h = rw (windows_joined ws) (windows_in_read ws e h)

pub high_windows_text : (ws : List (ℕ × ℕ)) → AreInDays ws → AreHigh (windows_text ws)
high_windows_text ws h = rw (windows_joined ws) (high_windows ws h)

pub names_text_read : (me : List ℕ) (names : List (List ℕ)) → AreNewNames me [] names → length names ≤ 4
    → names_in me (names_text names) ≡ Ok names
names_text_read me names h few = rw (names_joined names) (names_in_read me names h few)

pub high_names_text : (me : List ℕ) (names : List (List ℕ)) → AreNewNames me [] names → AreHigh (names_text names)
high_names_text me names h = rw (names_joined names) (high_names me [] names h)
