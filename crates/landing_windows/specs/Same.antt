-- When two lists of spans are the same, as a test.
use Rattle.std.specs.Prelude.{◌≡◌, Bool, List, ◌==◌, ◌&&◌, true}
use Rattle.std.specs.Bool.{Decides}
use Rattle.std.proofs.lemmas.Slice.Eq.{slice_eq-Decides}
use Rattle.std.specs.Cmp.{IsEquivalence}
use Rattle.std.specs.Cmp.Lexicographic.{pointwise}
use Rattle.std.proofs.Common.{arith, refl, rules}
use Rattle.std.proofs.lemmas.Cmp.{lists_equiv}
use Rattle.std.proofs.lemmas.Grind.{common_steps}
use Rattle.landing_rules.specs.Flights.{Span}

abbrev pub same_pair : Span → Span → Bool
same_pair a b = (a.0 == b.0) && (a.1 == b.1)

same_pair-refl : (a : Span) → same_pair a a ≡ true
same_pair-refl a = grind (arith, common_steps)

same_pair-symm : (a b : Span) → same_pair a b ≡ same_pair b a
same_pair-symm a b = grind (arith, common_steps)

same_pair-congr : (a b c : Span) → same_pair a b ≡ true → same_pair a c ≡ same_pair b c
same_pair-congr a b c e = grind (arith, common_steps)

pub same_lists : IsEquivalence (pointwise same_pair)
same_lists = lists_equiv (record { refl = same_pair-refl; symm = same_pair-symm; congr = same_pair-congr })

same_pair-Decides : (a b : Span) → Decides (same_pair a b) (a ≡ b)
same_pair-Decides a b = search rules

-- the test of two lists tells whether they are equal
pub same_lists-Decides : (xs ys : List Span) → Decides (pointwise same_pair xs ys) (xs ≡ ys)
same_lists-Decides xs ys = slice_eq-Decides same_pair-Decides xs ys (pointwise same_pair xs ys) refl
