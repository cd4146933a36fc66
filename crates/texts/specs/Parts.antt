-- The parts of a text round a mark, and the number, the callsign or the objective that a part is.
use Rattle.std.specs.Prelude.{ℕ, List, [], ◌==◌, codes, bytes_eq, Option, Some, None, Result, Ok, Err, if◌then◌else◌}
use Rattle.std.specs.List.{slice_split}
use Rattle.cps_base.specs.Text.{is_callsign}
use Rattle.cps_base.specs.Number.{number_within}
use Rattle.cps_base.specs.declared.number.NumberFault.{NumberFault}
use Rattle.landing_rules.specs.declared.objective.Objective.{Objective}
use Rattle.landing_rules.specs.declared.objective.Objective.TheVariants.{Makespan, Delay}

-- the parts of a text round a byte
abbrev pub parts : ℕ → List ℕ → List (List ℕ)
parts mark text = slice_split (λ b. b == mark) text

abbrev pub parts_left : ℕ → Option (List ℕ) → List (List ℕ)
parts_left mark None = []
parts_left mark (Some text) = parts mark text

abbrev pub ok_of : Result ℕ NumberFault → Option ℕ
ok_of (Ok n) = Some n
ok_of (Err e) = None

-- the number from least to most that a text is
unfoldable pub number_in : List ℕ → ℕ → ℕ → Option ℕ
number_in text least most = ok_of (number_within text least most)

-- the callsign that a text is
abbrev pub callsign_in : List ℕ → Option (List ℕ)
callsign_in text = if is_callsign text then Some text else None

-- the objective that a word names
abbrev pub objective_in : List ℕ → Option Objective
objective_in word =
    if bytes_eq word (codes "makespan") then Some Makespan
    else if bytes_eq word (codes "delay") then Some Delay
    else None
