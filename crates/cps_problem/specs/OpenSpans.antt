-- Spans of seconds at each of which a rank may land.
use Rattle.std.specs.Prelude.{◌≡◌, ℕ, ◌+◌, ◌≤◌, max, Option, Some}
use Rattle.landing_rules.specs.Flights.{Span}

-- when a rank is ready at a second from `from` to the end of a span, it lands then, or at the first second of the span
abbrev pub LandsWithin : (ℕ → Option ℕ) → ℕ → Span → Type 0
LandsWithin first from span = (t : ℕ) → from ≤ t → t ≤ span.1 → first t ≡ Some (max t span.0)

-- so it is with this span, up to its end alone
pub record IsOpenSpan (first : ℕ → Option ℕ) (from : ℕ) (span : Span) : Type 0 where
  pub after : from ≤ span.0
  pub runs : span.0 ≤ span.1
  pub lands : LandsWithin first from span
  pub ends : first (span.1 + 1) ≡ Some (span.1 + 1) → ⊥
