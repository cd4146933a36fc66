-- Where fewer seconds are shut, more schedules are feasible.
use Rattle.std.proofs.Common.{◌≡◌, ℕ, ◌≤◌, List, [], ◌∷◌, ◌++◌, Bool, true, false, refl, arith}
use Rattle.std.specs.Prelude.{◌&&◌, ◌||◌, not}
use Rattle.std.specs.List.{list_any}
use Rattle.landing_rules.specs.Flights.{Situation, Schedule, Span}
use Rattle.landing_rules.specs.Rules.{IsFeasible, is_shut}
use Rattle.whatif.specs.declared.outcome.Outcome.{Outcome}
use Rattle.whatif.specs.Laws.{IsNoWorse}
use Rattle.whatif.specs.Outcomes.{HasLeast}
use Rattle.whatif.proofs.OutcomeLemmas.{no_worse_by}

-- each second that is shut by these closures is by those
abbrev pub ShutsNoMore : List Span → List Span → Type 0
ShutsNoMore ds cs = (t : ℕ) → list_any (is_shut t) ds ≡ true → list_any (is_shut t) cs ≡ true

open_kept : (w c d : Bool) → (d ≡ true → c ≡ true) → (w && not c) ≡ true → (w && not d) ≡ true
open_kept true c false h e = refl
open_kept true true true h e = absurd (cc e)
open_kept true false true h e = absurd (cc (h refl))
open_kept false c d h e = absurd (cc e)

abbrev pub closed_by : Situation → List Span → Situation
closed_by s cs = record s { closures = cs }

feasible_with_fewer : (s : Situation) (cs ds : List Span) → ShutsNoMore ds cs → (t : Schedule)
    → IsFeasible (closed_by s cs) t → IsFeasible (closed_by s ds) t
feasible_with_fewer s cs ds fewer t f = (
  f.0,
  record {
    in_days = f.1.in_days;
    open_seconds = λ i d lt. open_kept _ _ _ (fewer _) (f.1.open_seconds i d lt);
    separated = f.1.separated;
    in_precedence = f.1.in_precedence;
    shift = f.1.shift;
    frozen_kept = f.1.frozen_kept;
  },
)

pub fewer_is_no_worse : (s : Situation) (cs ds : List Span) → ShutsNoMore ds cs → (x y : Outcome)
    → HasLeast (closed_by s cs) x → HasLeast (closed_by s ds) y → IsNoWorse x y
fewer_is_no_worse s cs ds fewer = no_worse_by (closed_by s cs) (closed_by s ds)
    (λ t u best other. other.least t (feasible_with_fewer s cs ds fewer t best.feasible))
    (λ none t f. none t (feasible_with_fewer s cs ds fewer t f))

-- ---- one closure more

or_left : (a b c : Bool) → (a ≡ true → c ≡ true) → (b ≡ true → c ≡ true) → (a || b) ≡ true → c ≡ true
or_left true b c h k e = h refl
or_left false true c h k e = k refl
or_left false false c h k e = absurd (cc e)

pub none_shuts_no_more : (cs : List Span) (span : Span) → ShutsNoMore cs (cs ++ span ∷ [])
none_shuts_no_more [] span t e = absurd (cc e)
none_shuts_no_more (c ∷ cs) span t e = or_left (is_shut t c) (list_any (is_shut t) cs)
    (is_shut t c || list_any (is_shut t) (cs ++ span ∷ [])) (λ here. grind (arith, here))
    (λ rest. grind (arith, none_shuts_no_more cs span t rest)) e

inner_shuts : (first end from to t : ℕ) → from ≤ first → end ≤ to → is_shut t (first, end) ≡ true
    → is_shut t (from, to) ≡ true
inner_shuts first end from to t low high e = grind (arith, low, high, e)

pub inner_shuts_no_more : (cs : List Span) (first end from to : ℕ) → from ≤ first → end ≤ to
    → ShutsNoMore (cs ++ (first, end) ∷ []) (cs ++ (from, to) ∷ [])
inner_shuts_no_more [] first end from to low high t e = or_left (is_shut t (first, end)) false
    (is_shut t (from, to) || false) (λ here. grind (arith, inner_shuts first end from to t low high here))
    (λ no. absurd (cc no)) e
inner_shuts_no_more (c ∷ cs) first end from to low high t e = or_left (is_shut t c)
    (list_any (is_shut t) (cs ++ (first, end) ∷ [])) (is_shut t c || list_any (is_shut t) (cs ++ (from, to) ∷ []))
    (λ here. grind (arith, here)) (λ rest. grind (arith, inner_shuts_no_more cs first end from to low high t rest)) e
