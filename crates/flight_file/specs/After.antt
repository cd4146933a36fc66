-- The predecessors that a field names, or its first fault.
use Rattle.std.specs.Prelude.{ℕ, List, [], ◌∷◌, ◌++◌, not, ◌==◌, ◌+◌, nat_lt, length, bytes_eq, Result, Ok, Err}
use Rattle.std.specs.Prelude.{if◌then◌else◌}
use Rattle.std.specs.List.{list_any}
use Rattle.cps_base.specs.Limits.{most_predecessors}
use Rattle.cps_base.specs.Answers.{◌>>=◌}
use Rattle.texts.specs.Parts.{parts}
use Rattle.cps_base.specs.Text.{is_callsign}
use Rattle.flight_file.specs.declared.fault.AfterCause.{AfterCause}
use Rattle.flight_file.specs.declared.fault.AfterCause.TheVariants.{TooMany, Callsign, Itself, Repeat}

-- the predecessor that part i names, behind those of the parts before it
abbrev pub name_in : List ℕ → ℕ → List (List ℕ) → List ℕ → Result (List ℕ) AfterCause
name_in own i before text =
    if not (is_callsign text) then Err (Callsign i)
    else if bytes_eq text own then Err (Itself i)
    else if list_any (bytes_eq text) before then Err (Repeat i)
    else Ok text

-- the predecessors that parts name, behind those of the parts before part i
unfoldable pub names_from : List ℕ → ℕ → List (List ℕ) → List (List ℕ) → Result (List (List ℕ)) AfterCause
names_from own i before [] = Ok before
names_from own i before (p ∷ ps) = name_in own i before p >>= (λ c. names_from own (i + 1) (before ++ c ∷ []) ps)

-- the predecessors of a text, which is cut at each `;`
unfoldable pub names_in : List ℕ → List ℕ → Result (List (List ℕ)) AfterCause
names_in own text =
    if length text == 0 then Ok []
    else if nat_lt most_predecessors (length (parts 59 text)) then Err TooMany
    else names_from own 1 [] (parts 59 text)
