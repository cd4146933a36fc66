-- The first closure that holds t, where there is one, shuts up to its end.
use Rattle.std.proofs.Common.{rules, tests, ◌≡◌, ◌∷◌, [], ℕ, List, Some, None, true, false, arith, sym, subst}
use Rattle.std.specs.Prelude.{find, MatchOption}
use Rattle.std.proofs.lemmas.Iterator.{YieldsList-from_slice}
use Rattle.std.proofs.lemmas.Iterator.Search.{find_from_yields_List}
use Rattle.landing_rules.specs.Flights.{Span}
use Rattle.landing_rules.specs.Rules.{is_shut}
use Rattle.landing_windows.specs.Spans.{shuts, IsShutUntil}
use Rattle.landing_windows.proofs.search.shut_until.Goals as goal

none_found : (t : ℕ) (xs : List Span) → find (is_shut t) xs ≡ None → shuts xs t ≡ false
none_found t [] e = cc
none_found t (x ∷ xs) e = let rest = none_found t xs in grind arith

holds : (t : ℕ) (xs : List Span) (x : Span) → find (is_shut t) xs ≡ Some x → is_shut t x ≡ true
holds t [] x e = absurd (cc)
holds t (y ∷ ys) x e = let rest = holds t ys x in grind arith

one_found : (t u : ℕ) (xs : List Span) (x : Span) → find (is_shut t) xs ≡ Some x → is_shut u x ≡ true
    → shuts xs u ≡ true
one_found t u [] x e s = absurd (cc)
one_found t u (y ∷ ys) x e s = let rest = one_found t u ys x in grind arith

pub returns-in_err-closure : goal.returns-in_err-closure
returns-in_err-closure c =
    let t = c.args.t in
    let xs = c.args.closures.now in
    let found = find_from_yields_List (is_shut t) _ _ c.find.result c.find.ensures.ran (YieldsList-from_slice xs (cc))
    (λ x b q k. search (rules, tests)) in
    let none : find (is_shut t) xs ≡ None = search (rules) in
    subst (λ r. MatchOption r (shuts xs t ≡ false) (λ end. IsShutUntil xs t end)) (sym c.from_residual.ensures)
    (none_found t xs none)

pub returns : goal.returns
returns c =
    let t = c.args.t in
    let xs = c.args.closures.now in
    let x = c.in_ok-closure.closure.now in
    let found = find_from_yields_List (is_shut t) _ _ c.find.result c.find.ensures.ran (YieldsList-from_slice xs (cc))
    (λ x b q k. search (rules, tests)) in
    let first : find (is_shut t) xs ≡ Some x = search (rules) in
    let held = holds t xs x first in
    record { after = grind arith; shut = λ u from below. one_found t u xs x first (grind arith) }
