-- What one line of a plan file is.
use Rattle.std.specs.Prelude.{ℕ, List, [], ◌∷◌, Bool, true, false, codes, bytes_eq, Option, Some, None}
use Rattle.std.specs.Prelude.{option_and_then, option_map, if◌then◌else◌}
use Rattle.cps_base.specs.Limits.{greatest_value}
use Rattle.landing_rules.specs.Rules.{last_second}
use Rattle.landing_rules.specs.declared.objective.Objective.{Objective}
use Rattle.landing_rules.specs.Text.{ShownLanding}
use Rattle.texts.specs.Parts.{parts, number_in, callsign_in, objective_in}

unfoldable pub head_by : List (List ℕ) → Option (Objective × ℕ)
head_by (word ∷ value ∷ []) =
    option_and_then (λ o. option_map (λ v. (o, v)) (number_in value 0 greatest_value)) (objective_in word)
head_by fields = None

-- the objective and the number that the first line says
unfoldable pub head_in : List ℕ → Option (Objective × ℕ)
head_in line = head_by (parts 32 line)

-- whether a landing is frozen, by its last word
abbrev pub mark_in : List ℕ → Option Bool
mark_in word =
    if bytes_eq word (codes "waiting") then Some false
    else if bytes_eq word (codes "frozen") then Some true
    else None

abbrev pub landing_with : List ℕ → ℕ → Bool → ShownLanding
landing_with c t f = record { callsign = c; second = t; frozen = f }

unfoldable pub landing_from : List ℕ → List ℕ → List ℕ → Option ShownLanding
landing_from callsign second mark =
    option_and_then (λ c. option_and_then (λ t. option_map (landing_with c t) (mark_in mark))
    (number_in second 0 last_second)) (callsign_in callsign)

unfoldable pub landing_by : List (List ℕ) → Option ShownLanding
landing_by (word ∷ callsign ∷ second ∷ mark ∷ []) =
    if bytes_eq word (codes "land") then landing_from callsign second mark else None
landing_by fields = None

-- the landing that a line says
unfoldable pub landing_in : List ℕ → Option ShownLanding
landing_in line = landing_by (parts 32 line)
