-- The span of a closure that a text is, or its first fault.
use Rattle.std.specs.Prelude.{ℕ, List, [], ◌∷◌, nat_le, Result, Ok, Err, if◌then◌else◌, ◌+◌}
use Rattle.cps_base.specs.Answers.{fault_as, ◌>>=◌}
use Rattle.landing_rules.specs.Rules.{last_second}
use Rattle.texts.specs.Parts.{parts}
use Rattle.cps_base.specs.Number.{number_within}
use Rattle.flight_file.specs.declared.fault.WindowsCause.TheVariants.{Shape, Number}
use Rattle.event_log.specs.declared.fault.FieldCause.{FieldCause}
use Rattle.event_log.specs.declared.fault.FieldCause.TheVariants.{Windows, EmptySpan}

-- a second from 0 to the most
abbrev pub second_in : List ℕ → ℕ → Result ℕ FieldCause
second_in text most = fault_as (λ e. Windows (Number 1 e)) (number_within text 0 most)

abbrev pub forward : ℕ → ℕ → Result (ℕ × ℕ) FieldCause
forward from to = if nat_le to from then Err EmptySpan else Ok (from, to)

-- the text, cut at each `-`
abbrev pub span_by : List (List ℕ) → Result (ℕ × ℕ) FieldCause
span_by (first ∷ last ∷ []) =
    second_in first last_second >>= (λ from. second_in last (last_second + 1) >>= (λ to. forward from to))
span_by ps = Err (Windows (Shape 1))

-- the span that a text is, `from-to`: its first second, and the first second behind it
unfoldable pub span_in : List ℕ → Result (ℕ × ℕ) FieldCause
span_in text = span_by (parts 45 text)
