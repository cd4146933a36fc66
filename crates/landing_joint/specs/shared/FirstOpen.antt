-- The first open second of spans is the least second at or after another that lies in one of them.
use Rattle.std.proofs.Common.{◌≡◌, ℕ, ◌≤◌, ◌<◌, ◌⊎◌, inl, inr, true, false, cond, List, [], ◌∷◌, max, min}
use Rattle.std.proofs.Common.{Option, Some, None, refl, sym, ap, ◌∙◌, arith}
use Rattle.std.specs.Prelude.{nat_le}
use Rattle.std.specs.List.{list_any}
use Rattle.std.proofs.lemmas.Bool.{cases_lt, leb-true, le-leb, or_cases, or_left, or_right, and_parts, and_from}
use Rattle.std.proofs.lemmas.Bool.{false≢true}
use Rattle.landing_rules.specs.Flights.{Span}
use Rattle.landing_rules.specs.Rules.{is_within}
use Rattle.landing_rules.specs.Problem.{Problem}
use Rattle.cps_theory.specs.Retiming.{IsFirstOpen}
use Rattle.landing_joint.specs.RankedProblem.{ranked, first_in_span, earlier_of, first_open, first_at}

-- ---- one span

span_found : (w : Span) (t u : ℕ) → first_in_span w t ≡ Some u → (is_within u w ≡ true) × (t ≤ u)
span_found w t u e = grind (arith, and_parts, leb-true, and_from, le-leb)

span_least : (w : Span) (t v : ℕ) → is_within v w ≡ true → t ≤ v → (u : ℕ) × (first_in_span w t ≡ Some u) × (u ≤ v)
span_least w t v e le =
    let parts = and_parts (nat_le w.0 v) (nat_le v w.1) e in
    let a = leb-true w.0 v parts.0 in
    let b = leb-true v w.1 parts.1 in
    let both = and_from _ _ (le-leb w.0 w.1 (omega arith)) (le-leb t w.1 (omega arith)) in
    (max t w.0, ap (λ c. cond c (Some (max t w.0)) None) both, omega arith)

-- ---- all spans

one_of : (a b : Option ℕ) (u : ℕ) → earlier_of a b ≡ Some u → (a ≡ Some u) ⊎ (b ≡ Some u)
one_of a b u e = grind (arith, cases_lt)

left_low : (a b : Option ℕ) (x : ℕ) → a ≡ Some x → (u : ℕ) × (earlier_of a b ≡ Some u) × (u ≤ x)
left_low None b x e = absurd (cc)
left_low (Some y) None x e = (y, refl, (let s : y ≡ x = cc in omega arith))
left_low (Some y) (Some z) x e = (min y z, refl, (let s : y ≡ x = cc in omega arith))

right_low : (a b : Option ℕ) (x : ℕ) → b ≡ Some x → (u : ℕ) × (earlier_of a b ≡ Some u) × (u ≤ x)
right_low None b x e = (x, e, omega arith)
right_low (Some y) None x e = absurd (cc)
right_low (Some y) (Some z) x e = (min y z, refl, (let s : z ≡ x = cc in omega arith))

pub first_open_found : (ws : List Span) (t u : ℕ) → first_open ws t ≡ Some u → (list_any (is_within u) ws ≡ true)
    × (t ≤ u)
first_open_found [] t u e = cc
first_open_found (w ∷ ws) t u e = grind (arith, one_of, span_found, or_left, or_right, first_open_found ws t u)

pub first_open_least : (ws : List Span) (t v : ℕ) → list_any (is_within v) ws ≡ true → t ≤ v
    → (u : ℕ) × (first_open ws t ≡ Some u) × (u ≤ v)
first_open_least [] t v e le = absurd (false≢true e)
first_open_least (w ∷ ws) t v e le = elim (or_cases _ _ e) [
  | inl a ↦ (let s = span_least w t v a le in let l = left_low _ _ s.0 s.1 in
      (l.0, l.1, (omega arith)))
  | inr b ↦ (let s = first_open_least ws t v b le in let l = right_low _ _ s.0 s.1 in
      (l.0, l.1, (omega arith)))
]

-- it is the only such answer
pub first_open_none : (ws : List Span) (t : ℕ) → ((u : ℕ) → t ≤ u → list_any (is_within u) ws ≡ false)
    → None ≡ first_open ws t
first_open_none ws t none = go _ refl
  where
    go : (o : Option ℕ) → first_open ws t ≡ o → None ≡ o
    go None e = refl
    go (Some u) e = let f = first_open_found ws t u e in absurd (false≢true (sym (none u f.1) ∙ f.0))

pub first_open_some : (ws : List Span) (t x : ℕ) → t ≤ x → list_any (is_within x) ws ≡ true
    → ((u : ℕ) → t ≤ u → u < x → list_any (is_within u) ws ≡ false) → Some x ≡ first_open ws t
first_open_some ws t x le passes least =
    let l = first_open_least ws t x passes le in
    let f = first_open_found ws t l.0 l.1 in grind (arith, cases_lt, false≢true)

-- the first open second of a rank of a problem
pub is_first_open : (p : Problem) → IsFirstOpen (λ r u. (ranked p).is_open r u ≡ true) (first_at p)
is_first_open p = search (first_open_found, first_open_least)
