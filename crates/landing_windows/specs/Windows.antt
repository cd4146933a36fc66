-- What the windows of a flight are, and the first fault of spans that are none.
use Rattle.std.specs.Prelude.{ℕ, zero, suc, List, [], ◌∷◌, Bool, false, ◌==◌, ◌+◌, ◌-◌, ◌&&◌, nat_le, nat_lt, length}
use Rattle.std.specs.Prelude.{slice_index_or, sum_by, Option, Some, None, Result, Ok, Err, if◌then◌else◌}
use Rattle.std.specs.Option.{option_or}
use Rattle.landing_rules.specs.Flights.{Span}
use Rattle.cps_base.specs.Limits.{most_open_seconds, most_windows}
use Rattle.landing_rules.specs.Rules.{last_second}
use Rattle.landing_windows.specs.declared.windows.WindowFault.{WindowFault}
use Rattle.landing_windows.specs.declared.windows.WindowFault.TheVariants.{Empty, TooMany, Backward, Overlap, TooLong}

-- both ends of a span are seconds of the two days
abbrev pub is_in_days : Span → Bool
is_in_days w = nat_le w.0 last_second && nat_le w.1 last_second

abbrev pub overlaps : Option ℕ → ℕ → Bool
overlaps None first = false
overlaps (Some last) first = nat_le first last

-- what is wrong with a span, by its number and the second where the span before it ends
abbrev pub span_fault : ℕ → Option ℕ → Span → Option WindowFault
span_fault i before s = if nat_lt s.1 s.0 then Some (Backward i) else if overlaps before s.0
    then Some (Overlap i) else None

-- the first span, counted from i, that runs backward or does not start after the second where the span before it ended
unfoldable pub bad_span : ℕ → Option ℕ → List Span → Option WindowFault
bad_span i before [] = None
bad_span i before (s ∷ ss) = option_or (span_fault i before s) (bad_span (i + 1) (Some s.1) ss)

-- the second where the span before a place ends, counted from 0
unfoldable pub end_before : List Span → ℕ → Option ℕ
end_before spans zero = None
end_before spans (suc i) = Some (slice_index_or spans i (0, 0)).1

-- the seconds of spans that run forward
unfoldable pub seconds_in : List Span → ℕ
seconds_in spans = sum_by (λ w. w.1 + 1 - w.0) spans

abbrev pub fault_or : Option WindowFault → Result (List Span) WindowFault → Result (List Span) WindowFault
fault_or (Some e) r = Err e
fault_or None r = r

-- the windows that spans are, or the first fault in the order of these tests
unfoldable pub windows_of : List Span → Result (List Span) WindowFault
windows_of spans =
    if length spans == 0 then Err Empty
    else if nat_lt most_windows (length spans) then Err TooMany
    else fault_or (bad_span 1 None spans) (if nat_lt most_open_seconds (seconds_in spans) then Err TooLong
    else Ok spans)
