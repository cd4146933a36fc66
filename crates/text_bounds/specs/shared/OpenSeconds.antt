-- Seconds that rise, each in one of the windows, are at most as many as the windows hold.
use Rattle.std.proofs.Common.{◌≡◌, ℕ, ◌+◌, ◌-◌, ◌<◌, ◌≤◌, inl, inr, List, [], ◌∷◌, length, true, refl, arith}
use Rattle.std.specs.Prelude.{◌&&◌, min, nat_lt, sum_by}
use Rattle.std.specs.List.{list_any}
use Rattle.std.proofs.lemmas.Bool.{and_parts, cases_Bool}
use Rattle.std.proofs.lemmas.Bool.Decides.{nat_tests}
use Rattle.std.proofs.lemmas.List.Sums.{sum_by-cons}
use Rattle.landing_rules.specs.Flights.{Span}
use Rattle.landing_rules.specs.Rules.{is_within}
use Rattle.cps_theory.specs.Labels.{InPairs, Pair}
use Rattle.certificate.specs.States.{rises}

-- how many seconds of the windows are below one
abbrev below : List Span → ℕ → ℕ
below [] t = 0
below (w ∷ ws) t = (min t (w.1 + 1) - w.0) + below ws t

abbrev pub seconds_of : List Span → ℕ
seconds_of ws = sum_by (λ (w : Span). w.1 + 1 - w.0) ws

below_on : (ws : List Span) (t u : ℕ) → t ≤ u → below ws t ≤ below ws u
below_on [] t u le = omega arith
below_on (w ∷ ws) t u le = omega (arith, below_on ws t u le)

below_all : (ws : List Span) (t : ℕ) → below ws t ≤ seconds_of ws
below_all [] t = omega arith
below_all (w ∷ ws) t = omega (arith, sum_by-cons, below_all ws t)

inside : (t : ℕ) (w : Span) → is_within t w ≡ true → (w.0 ≤ t) × (t ≤ w.1)
inside t w e = grind arith

below_more : (ws : List Span) (t u : ℕ) → list_any (is_within t) ws ≡ true → t < u → below ws t + 1 ≤ below ws u
below_more [] t u e lt = absurd (cc e)
below_more (w ∷ ws) t u e lt = elim (cases_Bool _) [
  | inl here ↦
      let at = inside t w here in
      let rest = below_on ws t u (omega (arith, lt)) in
      omega (arith, at.0, at.1, rest, lt)
  | inr other ↦
      let there : list_any (is_within t) ws ≡ true = rw other at e in
      omega (arith, below_more ws t u there lt, lt)
]

-- pairs whose seconds are each in a window
pub pairs_few : (ws : List Span) (ps : List Pair) → rises ps ≡ true
    → ((q : Pair) → InPairs q ps → list_any (is_within q.0) ws ≡ true) → length ps ≤ seconds_of ws
pairs_few ws [] up each = omega arith
pairs_few ws (p ∷ ps) up each = omega (arith, go p ps up each)
  where
    go : (p : Pair) (ps : List Pair) → rises (p ∷ ps) ≡ true
        → ((q : Pair) → InPairs q (p ∷ ps) → list_any (is_within q.0) ws ≡ true)
        → below ws p.0 + length (p ∷ ps) ≤ seconds_of ws
    go p [] up each =
        omega (arith, below_more ws p.0 (p.0 + 1) (each p (inl refl)) (omega arith), below_all ws (p.0 + 1))
    go p (q ∷ ps) up each =
        let both = and_parts (nat_lt p.0 q.0 && nat_lt q.1 p.1) (rises (q ∷ ps)) up in
        let lt : p.0 < q.0 = grind (arith, nat_tests, (and_parts (nat_lt p.0 q.0) (nat_lt q.1 p.1) both.0).0) in
        omega (arith, below_more ws p.0 q.0 (each p (inl refl)) lt, go q ps both.1 (λ r i. each r (inr i)))
