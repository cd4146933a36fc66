-- Texts without a mark, and lines without line feeds: a text that is cut at the mark tells what stands before it.
use Rattle.std.proofs.Common.{◌≡◌, ℕ, ◌<◌, ◌≤◌, List, [], ◌∷◌, ◌++◌, Bool, true, refl, sym, ap, ◌∙◌, arith}
use Rattle.std.proofs.Common.{rules, append_assoc}
use Rattle.std.specs.Prelude.{◌^◌, ⊤, not, nat_eq, codes, decimal}
use Rattle.std.specs.Char.{is_ascii_digit}
use Rattle.std.specs.List.{list_all}
use Rattle.std.specs.Str.Parse.{digits_value}
use Rattle.std.proofs.lemmas.Bool.{and_parts}
use Rattle.std.proofs.lemmas.Bool.Decides.{nat_tests}
use Rattle.std.proofs.lemmas.Grind.{common_steps}
use Rattle.std.proofs.lemmas.Fmt.{digits_decimal}
use Rattle.std.proofs.lemmas.Str.Parse.{IsNumeralModel, numerals_by_value}
use Rattle.landing_rules.specs.declared.objective.Objective.{Objective}
use Rattle.landing_rules.specs.declared.objective.Objective.TheVariants.{Makespan, Delay}
use Rattle.landing_rules.specs.Text.{Bytes, ShownLanding, lines_text, objective_word, frozen_word, landing_words}
use Rattle.landing_rules.specs.Text.{IsName}

-- no byte of the text is the mark
abbrev pub IsWithout : ℕ → Bytes → Type 0
IsWithout mark [] = ⊤
IsWithout mark (b ∷ rest) = (b ≡ mark → ⊥) × IsWithout mark rest

pub IsWithout-append : (mark : ℕ) (a b : Bytes) → IsWithout mark a → IsWithout mark b → IsWithout mark (a ++ b)
IsWithout-append mark [] b p q = q
IsWithout-append mark (x ∷ a) b p q = (p.0, IsWithout-append _ a b p.1 q)

abbrev pub first_or : ℕ → List ℕ → ℕ
first_or d [] = d
first_or d (x ∷ xs) = x

abbrev pub rest_of : {A : Type 0} → List A → List A
rest_of [] = []
rest_of (x ∷ xs) = xs

pub cut_same : (mark : ℕ) (a b x y : Bytes) → IsWithout mark a → IsWithout mark b → a ++ mark ∷ x ≡ b ++ mark ∷ y
    → (a ≡ b) × (x ≡ y)
cut_same mark [] [] x y p q e = (refl, ap rest_of e)
cut_same mark (c ∷ a) (d ∷ b) x y p q e = grind (arith, cut_same mark a)
cut_same mark a b x y p q e = grind arith

-- lines without line feeds
abbrev pub AreLines : List Bytes → Type 0
AreLines [] = ⊤
AreLines (l ∷ ls) = IsWithout 10 l × AreLines ls

line_some : (l x : Bytes) → l ++ 10 ∷ x ≡ [] → ⊥
line_some [] x e = cc e
line_some (b ∷ l) x e = cc e

pub lines_same : (ls ms : List Bytes) → AreLines ls → AreLines ms → lines_text ls ≡ lines_text ms → ls ≡ ms
lines_same [] [] p q e = refl
lines_same [] (m ∷ ms) p q e = absurd (line_some m _ (sym (append_assoc m _ _) ∙ sym e))
lines_same (l ∷ ls) [] p q e = absurd (line_some l _ (sym (append_assoc l _ _) ∙ e))
lines_same (l ∷ ls) (m ∷ ms) p q e = grind (arith, cut_same, append_assoc, lines_same ls)

-- ---- numbers, names and words without a mark

abbrev AreDigits : List ℕ → Type 0
AreDigits ds = list_all is_ascii_digit ds ≡ true

own : IsNumeralModel AreDigits (digits_value 10)
own = numerals_by_value _ (search rules)

digit_low : (b : ℕ) → is_ascii_digit b ≡ true → 48 ≤ b
digit_low b e = grind (arith, nat_tests, common_steps)

digits_without : (mark : ℕ) (ds : List ℕ) → mark < 48 → AreDigits ds → IsWithout mark ds
digits_without mark [] m h = tt
digits_without mark (d ∷ ds) m h = grind (arith, digit_low, and_parts, digits_without mark ds)

pub decimal_without : (mark n : ℕ) → mark < 48 → n < 2 ^ 64 → IsWithout mark (decimal n)
decimal_without mark n m h = digits_without _ _ m (digits_decimal own n h)

pub name_without : (mark : ℕ) (c : Bytes) → mark ≤ 32 → IsName c → IsWithout mark c
name_without mark [] m h = tt
name_without mark (b ∷ c) m h = ((λ e. omega (arith, h.0, e, m)), name_without _ c m h.1)

differs : (b mark : ℕ) → not (nat_eq b mark) ≡ true → b ≡ mark → ⊥
differs b mark h e = grind (arith, nat_tests, common_steps)

-- a text in which each byte is tested
pub all_without : (mark : ℕ) (bs : Bytes) → list_all (λ b. not (nat_eq b mark)) bs ≡ true → IsWithout mark bs
all_without mark [] h = tt
all_without mark (b ∷ bs) h = (differs b _ ((and_parts _ _ h).0), all_without _ bs ((and_parts _ _ h).1))

pub frozen_without : (b : Bool) → IsWithout 10 (frozen_word b)
frozen_without b = grind (arith, all_without)

pub objective_without : (o : Objective) → IsWithout 10 (objective_word o)
objective_without Makespan = all_without 10 (objective_word Makespan) refl
objective_without Delay = all_without 10 (objective_word Delay) refl

pub landing_line : (f : ShownLanding) → IsName f.callsign → f.second < 2 ^ 64 → IsWithout 10 (landing_words f)
landing_line f p m =
    IsWithout-append 10 (codes "land ") _ (all_without 10 (codes "land ") refl) (IsWithout-append 10 _ _
    (IsWithout-append 10 _ _ (name_without 10 _ (omega arith) p) (all_without 10 (codes " ") refl))
    (IsWithout-append 10 _ _ (decimal_without 10 _ (omega arith) m) (frozen_without _)))
