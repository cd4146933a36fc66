-- Lists of closed spans of seconds, and the least second at or after another that a test passes.
use Rattle.std.specs.Prelude.{⊤, ◌≡◌, ℕ, ◌+◌, ◌<◌, ◌≤◌, Bool, true, false, ◌&&◌, not, nat_le, List, [], ◌∷◌, Option}
use Rattle.std.specs.Prelude.{Some, None, MatchOption}
use Rattle.std.specs.List.{list_any}
use Rattle.landing_rules.specs.Flights.{Span}
use Rattle.landing_rules.specs.Rules.{last_second, is_within, is_shut}

-- the second lies in one of the spans, of which each holds both of its ends
abbrev pub opens : List Span → ℕ → Bool
opens spans t = list_any (is_within t) spans

-- the second lies in one of the closures, of which each holds its first second and not its end
abbrev pub shuts : List Span → ℕ → Bool
shuts closures t = list_any (is_shut t) closures

-- a second of the two days in no closure
abbrev pub is_runway_open : List Span → ℕ → Bool
is_runway_open closures t = nat_le t last_second && not (shuts closures t)

-- spans of the two days in order: the first begins at `least` or later, and each next `gap` seconds after an end or
-- later
abbrev pub AreSpansFrom : ℕ → ℕ → List Span → Type 0
AreSpansFrom gap least [] = ⊤
AreSpansFrom gap least (w ∷ ws) = (least ≤ w.0) × (w.0 ≤ w.1) × (w.1 ≤ last_second) × AreSpansFrom gap (w.1 + gap) ws

-- spans in order, with no second in two of them
abbrev pub AreInOrder : List Span → Type 0
AreInOrder spans = AreSpansFrom 1 0 spans

-- spans in order, with a second in none of them between two
abbrev pub AreMaximal : List Span → Type 0
AreMaximal spans = AreSpansFrom 2 0 spans

-- the longest spans of exactly the seconds that pass
pub record AreSecondsOf (test : ℕ → Bool) (spans : List Span) : Type 0 where
  pub maximal : AreMaximal spans
  pub same : (t : ℕ) → opens spans t ≡ test t

-- no second at or after `from` passes
abbrev pub NoneFrom : (ℕ → Bool) → ℕ → Type 0
NoneFrom test from = (u : ℕ) → from ≤ u → test u ≡ false

-- t is the least second at or after `from` that passes
pub record IsLeastFrom (test : ℕ → Bool) (from t : ℕ) : Type 0 where
  pub after : from ≤ t
  pub passes : test t ≡ true
  pub least : (u : ℕ) → from ≤ u → u < t → test u ≡ false

-- the least second at or after `from` that passes, or none exactly where there is none
abbrev pub FirstFrom : (ℕ → Bool) → ℕ → Option ℕ → Type 0
FirstFrom test from answer = MatchOption answer (NoneFrom test from) (λ t. IsLeastFrom test from t)

-- every second from `from` up to `stop` passes, and `stop` doesn't
pub record IsStopFrom (test : ℕ → Bool) (from stop : ℕ) : Type 0 where
  pub after : from ≤ stop
  pub passes : (u : ℕ) → from ≤ u → u < stop → test u ≡ true
  pub ends : test stop ≡ false

-- the least second at or after `from` that passes, and the last one up to which every second from it on does
abbrev pub SpanFrom : (ℕ → Bool) → ℕ → Option Span → Type 0
SpanFrom test from answer =
    MatchOption answer (NoneFrom test from) (λ span. IsLeastFrom test from span.0 × IsStopFrom test span.0 (span.1 + 1))

-- a closure shuts t, and shuts every second up to the end given
pub record IsShutUntil (closures : List Span) (t end : ℕ) : Type 0 where
  pub after : t < end
  pub shut : (u : ℕ) → t ≤ u → u < end → shuts closures u ≡ true

-- the least shut second at or after `from`, or `most` where that comes first
pub record IsFirstShut (closures : List Span) (from most t : ℕ) : Type 0 where
  pub after : from ≤ t
  pub within : t ≤ most
  pub least : (u : ℕ) → from ≤ u → u < t → shuts closures u ≡ false
  pub shut : t < most → shuts closures t ≡ true

-- a first answer is at most a second one, where none is the latest
abbrev pub IsNotLater : Option ℕ → Option ℕ → Type 0
IsNotLater a None = ⊤
IsNotLater a (Some y) = MatchOption a ⊥ (λ x. x ≤ y)

-- the first second from s is not later than that from t where s is not later than t
abbrev pub NeverFallsLaw : Type 0
NeverFallsLaw = (test : ℕ → Bool) (s t : ℕ) (a b : Option ℕ) → FirstFrom test s a → FirstFrom test t b
    → s ≤ t → IsNotLater a b

-- equal open seconds have equal lists of spans
abbrev pub OneListLaw : Type 0
OneListLaw = (xs ys : List Span) → AreMaximal xs → AreMaximal ys → ((t : ℕ) → opens xs t ≡ opens ys t) → xs ≡ ys
