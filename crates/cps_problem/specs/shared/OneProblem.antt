-- Two problems of one situation differ in nothing but how their pairs of ranks are listed: they have the same flights,
-- and the same ranks must land before others.
use Rattle.std.proofs.Common.{◌≡◌, ℕ, zero, suc, ◌+◌, ◌<◌, true, List, [], ◌∷◌, length, get_or, Option, refl}
use Rattle.std.proofs.Common.{sym, ap, ◌∙◌, add-one, arith}
use Rattle.std.specs.List.{AllZip}
use Rattle.std.proofs.Math.Path.{fun_ext}
use Rattle.std.proofs.lemmas.Bool.Decides.{same_from_decides}
use Rattle.std.proofs.lemmas.Option.{slice_get-get_or}
use Rattle.std.proofs.lemmas.Slice.Zip.{AllZip-long}
use Rattle.wake_table.specs.declared.category.Category.{Category}
use Rattle.precedence.specs.Pairs.{must_precede}
use Rattle.landing_rules.specs.declared.objective.Objective.{Objective}
use Rattle.landing_rules.specs.Flights.{Active, Callsign, Situation, Span, waiting}
use Rattle.landing_rules.specs.Problem.{Problem, Waiting, IsWaitingOf, IsProblemOf, ArePredecessorsOf, AreBetweenRanks}
use Rattle.landing_rules.specs.Problem.{by_rank}
use Rattle.landing_windows.specs.Runs.{one_spans}

abbrev waiting_from : Callsign → Category → ℕ → ℕ → ℕ → List Span → Waiting
waiting_from callsign category eta weight passed spans =
    record { callsign = callsign; category = category; eta = eta; weight = weight; passed = passed; open_spans = spans }

one_waiting : (closures : List Span) (a : Active) (v w : Waiting) → IsWaitingOf closures a v
    → IsWaitingOf closures a w → v ≡ w
one_waiting closures a v w h k =
    ap (λ (x : Callsign). waiting_from x v.category v.eta v.weight v.passed v.open_spans) (h.callsign ∙ sym k.callsign)
    ∙ ap (λ (x : Category). waiting_from w.callsign x v.eta v.weight v.passed v.open_spans)
    (h.category ∙ sym k.category)
    ∙ ap (λ (x : ℕ). waiting_from w.callsign w.category x v.weight v.passed v.open_spans) (h.eta ∙ sym k.eta)
    ∙ ap (λ (x : ℕ). waiting_from w.callsign w.category w.eta x v.passed v.open_spans) (h.weight ∙ sym k.weight)
    ∙ ap (λ (x : ℕ). waiting_from w.callsign w.category w.eta w.weight x v.open_spans) (h.passed ∙ sym k.passed)
    ∙ ap (waiting_from w.callsign w.category w.eta w.weight w.passed)
    (one_spans a.flight.windows closures v.open_spans w.open_spans h.open_spans k.open_spans)

one_flights : (closures : List Span) (all : List Active) (vs ws : List Waiting) → AllZip (IsWaitingOf closures) all vs
    → AllZip (IsWaitingOf closures) all ws → vs ≡ ws
one_flights closures [] [] [] h k = refl
one_flights closures [] [] (w ∷ ws) h k = absurd k
one_flights closures [] (v ∷ vs) ws h k = absurd h
one_flights closures (a ∷ all) [] ws h k = absurd h
one_flights closures (a ∷ all) (v ∷ vs) [] h k = absurd k
one_flights closures (a ∷ all) (v ∷ vs) (w ∷ ws) h k = search (one_waiting, one_flights closures all vs ws h.1 k.1)

pub same_flights : (s : Situation) (p q : Problem) → IsProblemOf s p → IsProblemOf s q → p.flights ≡ q.flights
same_flights s p q h k = grind (arith, one_flights)

-- ---- which ranks must land before others

module _ (xs ys : List ℕ) where
  asked_at : (ranked : List Active) (i j : ℕ) → i < length ranked → j < length ranked → ArePredecessorsOf ranked xs
      → ArePredecessorsOf ranked ys
      → must_precede xs (i + 1) (j + 1) ≡ true → must_precede ys (i + 1) (j + 1) ≡ true
  asked_at [] i j left right of_xs of_ys e = absurd (omega arith)
  asked_at (d ∷ rest) i j left right of_xs of_ys e =
      let a = slice_get-get_or (d ∷ rest) i d left in
      let b = slice_get-get_or (d ∷ rest) j d right in
      of_ys i j (get_or (d ∷ rest) i d) (get_or (d ∷ rest) j d) a b
      ∙ sym (of_xs i j (get_or (d ∷ rest) i d) (get_or (d ∷ rest) j d) a b) ∙ e

  -- what the one list asks of two ranks, the other asks
  asked : (ranked : List Active) (i j : ℕ) → AreBetweenRanks (length ranked) xs → ArePredecessorsOf ranked xs
      → ArePredecessorsOf ranked ys
      → must_precede xs i j ≡ true → must_precede ys i j ≡ true
  asked ranked zero j between of_xs of_ys e = absurd (let r = (between zero j e).0 in omega arith)
  asked ranked (suc i) zero between of_xs of_ys e = absurd (let r = (between (suc i) zero e).2 in omega arith)
  asked ranked (suc i) (suc j) between of_xs of_ys e =
      let within = between (suc i) (suc j) e in
      let left = within.1 in
      let right = within.3 in
      let here : must_precede xs (i + 1) (j + 1) ≡ true = rw (add-one i, add-one j) e in
      rw (add-one i, add-one j) at (asked_at ranked i j (omega arith) (omega arith) of_xs of_ys here)

between_all : (s : Situation) (p : Problem) → IsProblemOf s p → AreBetweenRanks (length (by_rank (waiting s))) p.pairs
between_all s p h = grind (arith, AllZip-long)

pub same_order : (s : Situation) (p q : Problem) → IsProblemOf s p → IsProblemOf s q
    → must_precede p.pairs ≡ must_precede q.pairs
same_order s p q h k = fun_ext λ i. fun_ext λ j. same_from_decides (must_precede p.pairs i j)
    (must_precede q.pairs i j) (
      asked p.pairs q.pairs (by_rank (waiting s)) i j (between_all s p h) h.predecessors k.predecessors,
      asked q.pairs p.pairs (by_rank (waiting s)) i j (between_all s q k) k.predecessors h.predecessors,
    )
    (λ e. e, λ e. e)

-- ---- all else

abbrev problem_from : List (List ℕ) → ℕ → Objective → ℕ → Option (ℕ × Category) → ℕ → List Waiting → List ℕ → Problem
problem_from table k objective horizon last base flights pairs = record {
  table = table;
  k = k;
  objective = objective;
  horizon = horizon;
  last = last;
  base = base;
  flights = flights;
  pairs = pairs;
}

-- the one problem with another list of pairs
abbrev pub with_pairs : Problem → List ℕ → Problem
with_pairs p xs = problem_from p.table p.k p.objective p.horizon p.last p.base p.flights xs

pub same_but_pairs : (s : Situation) (p q : Problem) → IsProblemOf s p → IsProblemOf s q → p ≡ with_pairs q p.pairs
same_but_pairs s p q h k = grind (arith, same_flights)
