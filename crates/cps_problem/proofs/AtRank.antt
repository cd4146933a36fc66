-- The flight that is read at a rank, what holds of it, and its first open second.
use Rattle.std.proofs.Common.{◌≡◌, ℕ, ◌+◌, ◌-◌, ◌≤◌, List, Option, Some, None, sym, subst, arith}
use Rattle.std.specs.Prelude.{All, slice_get, MatchOption}
use Rattle.std.proofs.lemmas.Option.{slice_get_within, get_or_from_slice_get}
use Rattle.std.proofs.lemmas.Bool.{cases_eq, false≢true}
use Rattle.landing_rules.specs.Flights.{Span}
use Rattle.landing_rules.specs.Problem.{Problem, Waiting}
use Rattle.landing_windows.specs.Spans.{opens, FirstFrom, IsLeastFrom, IsStopFrom, SpanFrom}
use Rattle.cps_theory.specs.RankLists.{of_rank}
use Rattle.landing_joint.specs.RankedProblem.{no_waiting, first_open}
use Rattle.landing_joint.specs.shared.FirstOpen.{first_open_none, first_open_some, first_open_found}
use Rattle.cps_problem.specs.OpenSpans.{IsOpenSpan}

pub flight_is : (p : Problem) (r : ℕ) (f : Waiting) → 1 ≤ r → slice_get p.flights (r - 1) ≡ Some f
    → of_rank no_waiting p.flights r ≡ f
flight_is p r f one e = grind (arith, get_or_from_slice_get)

pub all_of : {X : Type 0} (P : X → Type 0) (xs : List X) (i : ℕ) (f : X) → All P xs → slice_get xs i ≡ Some f → P f
all_of P xs i f all e = subst P (get_or_from_slice_get xs i f f e) (all i f (slice_get_within xs i f e))

-- what is first from a second in spans
pub first_is : (spans : List Span) (t : ℕ) (answer : Option ℕ) → FirstFrom (opens spans) t answer
    → answer ≡ first_open spans t
first_is spans t answer h = grind (arith, first_open_none, first_open_some)

-- a span of open seconds is one in which a rank with these spans lands at once
pub span_is : (spans : List Span) (from : ℕ) (span : Span) → IsLeastFrom (opens spans) from span.0
    → IsStopFrom (opens spans) span.0 (span.1 + 1) → IsOpenSpan (first_open spans) from span
span_is spans from span first stop = grind (arith, first_open_some, false≢true, first_open_found, cases_eq)

pub spans_are : (spans : List Span) (from : ℕ) (answer : Option Span) → SpanFrom (opens spans) from answer
    → MatchOption answer (first_open spans from ≡ None) (λ span. IsOpenSpan (first_open spans) from span)
spans_are spans from None h = sym (first_open_none spans from h)
spans_are spans from (Some span) h = span_is spans from span h.0 h.1
