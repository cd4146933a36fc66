-- What one line of a certificate is.
use Rattle.std.specs.Prelude.{ℕ, List, [], ◌∷◌, ◌&&◌, ◌||◌, ◌==◌, nat_lt, map, Bool, length, codes, bytes_eq, Option}
use Rattle.std.specs.Prelude.{Some, None, option_and_then, option_map, if◌then◌else◌}
use Rattle.std.specs.List.{list_all}
use Rattle.cps_base.specs.Limits.{greatest_value, greatest_word, most_waiting}
use Rattle.landing_rules.specs.Rules.{last_second}
use Rattle.texts.specs.Parts.{callsign_in, number_in, parts}
use Rattle.certificate.specs.declared.certificate.Claim.{Claim}
use Rattle.certificate.specs.declared.certificate.Claim.TheVariants.{Optimal, Infeasible}
use Rattle.certificate.specs.Patterns.{is_pattern_length}
use Rattle.certificate.specs.States.{Pair, State, rises}

-- the digit that a byte is: 1 is true
abbrev pub digit_of : ℕ → Bool
digit_of b = b == 49

-- a byte is that of a digit, 0 or 1
abbrev pub is_digit : ℕ → Bool
is_digit b = b == 48 || b == 49

abbrev pub are_pattern_digits : List ℕ → Bool
are_pattern_digits text = (nat_lt 0 (length text) && is_pattern_length (length text)) && list_all is_digit text

unfoldable pub pattern_in : List ℕ → Option (List Bool)
pattern_in text =
    if bytes_eq text (codes "-") then Some []
    else if are_pattern_digits text then Some (map digit_of text)
    else None

abbrev pub pair_by : List (List ℕ) → Option Pair
pair_by (second ∷ cost ∷ []) =
    option_and_then (λ t. option_map (λ c. (t, c)) (number_in cost 0 greatest_word)) (number_in second 0 last_second)
pair_by fields = None

unfoldable pub pair_in : List ℕ → Option Pair
pair_in text = pair_by (parts 58 text)

unfoldable pub pairs_in : List (List ℕ) → Option (List Pair)
pairs_in [] = Some []
pairs_in (p ∷ ps) = option_and_then (λ x. option_map (λ xs. x ∷ xs) (pairs_in ps)) (pair_in p)

abbrev pub state_with : ℕ → List Bool → ℕ → List Pair → Option State
state_with stage pattern last pairs =
    if nat_lt 0 (length pairs) && rises pairs
    then Some (record { stage = stage; pattern = pattern; last = last; pairs = pairs }) else None

unfoldable pub state_from : List ℕ → List ℕ → List ℕ → List (List ℕ) → Option State
state_from stage pattern last pairs =
    option_and_then (λ a. option_and_then
    (λ p. option_and_then (λ l. option_and_then (state_with a p l) (pairs_in pairs)) (number_in last 1 most_waiting))
    (pattern_in pattern)) (number_in stage 1 most_waiting)

unfoldable pub state_by : List (List ℕ) → Option State
state_by (word ∷ stage ∷ pattern ∷ last ∷ pairs) =
    if bytes_eq word (codes "state") then state_from stage pattern last pairs else None
state_by fields = None

-- the state that a line says
unfoldable pub state_in : List ℕ → Option State
state_in line = state_by (parts 32 line)

unfoldable pub landing_by : List (List ℕ) → Option (List ℕ × ℕ)
landing_by (word ∷ callsign ∷ second ∷ []) =
    if bytes_eq word (codes "land")
    then option_and_then (λ c. option_map (λ t. (c, t)) (number_in second 0 last_second)) (callsign_in callsign)
    else None
landing_by fields = None

-- the landing that a line says
unfoldable pub landing_in : List ℕ → Option (List ℕ × ℕ)
landing_in line = landing_by (parts 32 line)

-- the value of an optimal plan
abbrev pub claim_with : List ℕ → Option Claim
claim_with value = option_map Optimal (number_in value 0 greatest_value)

unfoldable pub claim_by : List (List ℕ) → Option Claim
claim_by (word ∷ kind ∷ []) = if bytes_eq word (codes "claim") && bytes_eq kind (codes "infeasible")
    then Some Infeasible else None
claim_by (word ∷ kind ∷ value ∷ []) = if bytes_eq word (codes "claim") && bytes_eq kind (codes "optimal")
    then claim_with value else None
claim_by fields = None

-- the claim that a line says
unfoldable pub claim_in : List ℕ → Option Claim
claim_in line = claim_by (parts 32 line)
