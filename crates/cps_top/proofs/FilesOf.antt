-- The words that name a command's files, and what it did over their contents as what is asked of the command that was
-- read.
use Rattle.std.proofs.Common.{◌≡◌, ℕ, ◌-◌, ◌≤◌, List, [], ◌∷◌, length, map, take, drop, Option, Some, refl, ap, ap₂}
use Rattle.std.proofs.Common.{subst, sym, ◌∙◌, arith}
use Rattle.std.proofs.lemmas.List.{length-map, take_rest}
use Rattle.std.specs.Global.{Global}
use Rattle.std.specs.Prelude.{String, string_bytes, option_map, slice_get, unwrap_or}
use Rattle.cps_outside.specs.SinkState.{SinkState}
use Rattle.endings.specs.declared.ending.Ending.{Ending}
use Rattle.cps_top.specs.declared.commands.Command.{Command}
use Rattle.cps_top.specs.declared.commands.Command.TheVariants.{Trial}
use Rattle.cps_top.specs.Commands.{command_of, file_count, files_of, names_of}
use Rattle.cps_top.specs.Outcome.{Follows}
use Rattle.cps_top.proofs.ByCommand.{fits}

names_by : (words : List (List ℕ)) (c : Command) (o : Option Command) → o ≡ Some c
    → unwrap_or (option_map (λ x. names_of x words) o) [] ≡ names_of c words
names_by words c o e = ap (λ (p : Option Command). unwrap_or (option_map (λ x. names_of x words) p) []) e

-- those of a command that is no trial are the words behind the first
behind_first : (c : Command) (words : List (List ℕ)) → ((s n k : ℕ) → c ≡ Trial s n k → ⊥)
    → names_of c words ≡ drop 1 words
behind_first (Trial s n k) words other = absurd (other s n k refl)
behind_first c words other = refl

rest_of : (words : List (String Global)) → map string_bytes (take (length words - 1) (drop 1 words)) ≡ drop 1
    (map string_bytes words)
rest_of [] = refl
rest_of (word ∷ rest) = ap (map string_bytes) (take_rest (word ∷ rest) 1)

pub names_in_default : (words : List (String Global)) (c : Command) → command_of (map string_bytes words) ≡ Some c
    → ((s n k : ℕ) → c ≡ Trial s n k → ⊥) →
    (map string_bytes (take (length words - 1) (drop 1 words)) ≡ files_of (map string_bytes words))
    × (length (take (length words - 1) (drop 1 words)) ≡ file_count c)
names_in_default words c e other =
    let names : map string_bytes (take (length words - 1) (drop 1 words)) ≡ names_of c (map string_bytes words) =
    rest_of words ∙ sym (behind_first c (map string_bytes words) other) in (
      names ∙ sym (names_by (map string_bytes words) c (command_of (map string_bytes words)) e),
      sym (length-map (take (length words - 1) (drop 1 words)) string_bytes) ∙ ap length names
          ∙ (fits (map string_bytes words) c e).0,
    )

-- ---- contents

-- the i-th of them, from 0, and nothing where there is none
abbrev at : {X : Type 0} → (X → List ℕ) → List X → ℕ → List ℕ
at bytes xs i = unwrap_or (slice_get (map bytes xs) i) []

listed : {X : Type 0} (bytes : X → List ℕ) (xs : List X) (a b c : List ℕ) → length xs ≤ 3
    → a ≡ at bytes xs 0 → b ≡ at bytes xs 1 → c ≡ at bytes xs 2 → map bytes xs ≡ take (length xs) (a ∷ b ∷ c ∷ [])
listed bytes [] a b c few first second third = refl
listed bytes (p ∷ []) a b c few first second third = ap (λ l. l ∷ []) (sym first)
listed bytes (p ∷ q ∷ []) a b c few first second third = ap₂ (λ l m. l ∷ m ∷ []) (sym first) (sym second)
listed bytes (p ∷ q ∷ r ∷ []) a b c few first second third =
    ap₂ (λ l m. l ∷ m) (sym first) (ap₂ (λ l m. l ∷ m ∷ []) (sym second) (sym third))
listed bytes (p ∷ q ∷ r ∷ s ∷ rest) a b c few first second third = absurd (omega arith)

at_most_three : (command : Command) → file_count command ≤ 3
at_most_three (Trial s n k) = omega arith
at_most_three command = omega arith

pub followed : {X : Type 0} (bytes : X → List ℕ) (xs : List X) (command read : Command) (a b c : List ℕ)
    (old new : SinkState) (ending : Ending) → command ≡ read → length xs ≡ file_count command
    → a ≡ at bytes xs 0 → b ≡ at bytes xs 1 → c ≡ at bytes xs 2
    → Follows read (take (file_count read) (a ∷ b ∷ c ∷ [])) old new ending
    → Follows command (map bytes xs) old new ending
followed bytes xs command read a b c old new ending is count first second third follows =
    let few = at_most_three command in
    let all = listed bytes xs a b c (omega (arith, few)) first second third in
    let many : length xs ≡ file_count read = count ∙ ap file_count is in
    subst (λ (x : Command). Follows x (map bytes xs) old new ending) (sym is)
    (subst (λ (l : List (List ℕ)). Follows read l old new ending)
    (sym (all ∙ ap (λ n. take n (a ∷ b ∷ c ∷ [])) many)) follows)
