-- A list without the first element that a test passes.
use Rattle.std.proofs.Common.{◌≡◌, List, [], ◌∷◌, Bool, true, false, cond, refl, inl, inr}
use Rattle.std.specs.List.{list_any}
use Rattle.std.proofs.lemmas.Bool.{cases_Bool}
use Rattle.landing_rules.specs.Flights.{Span}
use Rattle.landing_rules.specs.Events.{without_first}

-- what is still to be kept of the rest
abbrev pub left : (Span → Bool) → Bool → List Span → List Span
left test found rest = cond found rest (without_first test rest)

pub none_without : (test : Span → Bool) (xs : List Span) → list_any test xs ≡ false → without_first test xs ≡ xs
none_without test [] e = refl
none_without test (x ∷ xs) e = elim (cases_Bool (test x)) [
  | inl here ↦ let contradiction : true ≡ false = rw here at e in absurd (cc contradiction)
  | inr not_here ↦ let rest : list_any test xs ≡ false =
      rw not_here at e in rw (not_here, none_without test xs rest) refl
]
