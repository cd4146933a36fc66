-- The lines of the first landings, and of those behind them.
use Rattle.std.proofs.Common.{arith, ◌≡◌, ℕ, zero, suc, ◌+◌, List, [], ◌∷◌, ◌++◌, Some, take, drop, refl, sym}
use Rattle.std.proofs.Common.{ap, ◌∙◌, append_assoc}
use Rattle.std.specs.Prelude.{map, slice_get}
use Rattle.std.proofs.lemmas.List.{drop_more, take_more}
use Rattle.std.proofs.lemmas.Option.{slice_get_within, get_or_from_slice_get}
use Rattle.landing_rules.specs.Text.{ShownLanding, line, lines_text, landing_words}

abbrev pub landing_lines : List ShownLanding → List ℕ
landing_lines ls = lines_text (map landing_words ls)

rest_is : (ls : List ShownLanding) (i : ℕ) (l : ShownLanding) → slice_get ls i ≡ Some l
    → drop i ls ≡ l ∷ drop (i + 1) ls
rest_is ls i l e = drop_more ls i l (slice_get_within ls i l e)
    ∙ ap (λ (y : ShownLanding). y ∷ drop (i + 1) ls) (get_or_from_slice_get ls i l l e)

-- one line more of those that are left
pub lines_left : (ls : List ShownLanding) (i : ℕ) (l : ShownLanding) (text : List ℕ) → slice_get ls i ≡ Some l →
    (text ++ line (landing_words l)) ++ landing_lines (drop (i + 1) ls) ≡ text ++ landing_lines (drop i ls)
lines_left ls i l text e = grind (arith, append_assoc, rest_is)

-- the lines of the first landings, and then those of the others
pub lines_split : (ls : List ShownLanding) (i : ℕ) → landing_lines (take i ls)
    ++ landing_lines (drop i ls) ≡ landing_lines ls
lines_split ls zero = refl
lines_split [] (suc i) = refl
lines_split (x ∷ xs) (suc i) = grind (arith, append_assoc, lines_split xs i)

-- one landing more
pub first_more : (all first : List ShownLanding) (i : ℕ) (l : ShownLanding) → first ≡ take i all
    → slice_get all i ≡ Some l → first ++ l ∷ [] ≡ take (i + 1) all
first_more all first i l e at =
    ap (λ (r : List ShownLanding). r ++ l ∷ []) e
    ∙ ap (λ (y : ShownLanding). take i all ++ y ∷ []) (sym (get_or_from_slice_get all i l l at))
    ∙ sym (take_more all i l (slice_get_within all i l at))
