-- The first span that ends at t or later holds the least second, and ends before one that is not open.
use Rattle.std.proofs.Common.{rules, tests, ◌≡◌, ◌≤◌, ◌+◌, ◌∷◌, [], ℕ, List, Some, None, false, arith, refl, sym}
use Rattle.std.proofs.Common.{subst, inl, inr}
use Rattle.std.specs.Prelude.{find, nat_le}
use Rattle.std.proofs.lemmas.Bool.{cases_Bool}
use Rattle.std.proofs.lemmas.Iterator.{YieldsList-from_slice}
use Rattle.std.proofs.lemmas.Iterator.Search.{find_from_yields_List}
use Rattle.landing_rules.specs.Flights.{Span}
use Rattle.landing_windows.specs.Spans.{opens, AreSpansFrom, AreMaximal, SpanFrom}
use Rattle.landing_windows.specs.Runs.{maximal_in_order, least_within, stops_after}
use Rattle.landing_windows.proofs.open_times.OpenTimes.span_from.Goals as goal

none_open : (t u : ℕ) (xs : List Span) → find (λ w. nat_le t w.1) xs ≡ None → t ≤ u → opens xs u ≡ false
none_open t u [] e from = cc
none_open t u (x ∷ xs) e from = let rest = none_open t u xs in grind arith

-- from t on, the span that is found and those behind it hold what all hold
from_found : (t least : ℕ) (xs : List Span) (x : Span) → AreSpansFrom 2 least xs → find (λ w. nat_le t w.1) xs ≡ Some x
    → (rest : List Span) × ((u : ℕ) → t ≤ u → opens (x ∷ rest) u ≡ opens xs u) × AreMaximal (x ∷ rest) × (t ≤ x.1)
from_found t least [] x a e = absurd (cc)
from_found t least (y ∷ ys) x a e = elim (cases_Bool (nat_le t y.1)) [
  | inl here ↦
      let same : y ≡ x = grind arith in
      subst (λ z. (rest : List Span) × ((u : ℕ) → t ≤ u → opens (z ∷ rest) u ≡ opens (y ∷ ys) u)
      × AreMaximal (z ∷ rest) × (t ≤ z.1)) same
      (ys, λ u from. refl, (omega arith, a.1, a.2, a.3), grind arith)
  | inr later ↦
      let first : find (λ w. nat_le t w.1) ys ≡ Some x = grind arith in
      let found = from_found t (y.1 + 2) ys x a.3 first in
      (found.0, λ u from. (let rest = found.1 u from in grind arith), found.2, found.3)
]

pub returns-in_err-first-clause-span : goal.returns-in_err-first-clause-span
returns-in_err-first-clause-span c =
    let t = c.args.t in
    let xs = c.args.self.now in
    let found = find_from_yields_List (λ w. nat_le t w.1) _ _ c.find.result c.find.ensures.ran
    (YieldsList-from_slice xs (cc)) (λ x b q k. search (rules, tests)) in
    let none : find (λ w. nat_le t w.1) xs ≡ None = search (rules) in
    subst (SpanFrom (opens xs) t) (sym c.from_residual.ensures) (λ u from. none_open t u xs none from)

pub returns : goal.returns
returns c =
    let t = c.args.t in
    let xs = c.args.self.now in
    let x = c.in_ok-first.field-0.now in
    let found = find_from_yields_List (λ w. nat_le t w.1) _ _ c.find.result c.find.ensures.ran
    (YieldsList-from_slice xs (cc)) (λ x b q k. search (rules, tests)) in
    let first : find (λ w. nat_le t w.1) xs ≡ Some x = search (rules) in
    let maximal : AreMaximal xs = search (rules) in
    let rest = from_found t 0 xs x maximal first in
    record {
      span = (
        least_within xs (x ∷ rest.0) x t c.max.result rest.1 (maximal_in_order (x ∷ rest.0) rest.2)
            (omega arith) rest.3 c.max.ensures,
        stops_after xs (x ∷ rest.0) x t c.max.result rest.1 rest.2 (omega arith) rest.3 c.max.ensures,
      );
      in_days = rest.2.2;
      spans = maximal;
    }
