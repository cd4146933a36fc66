-- The windows that a field holds, or its first fault.
use Rattle.std.specs.Prelude.{ℕ, List, [], ◌∷◌, ◌==◌, ◌+◌, nat_lt, length, Result, Ok, Err, if◌then◌else◌}
use Rattle.cps_base.specs.Limits.{most_windows}
use Rattle.cps_base.specs.Answers.{fault_as, ◌>>=◌}
use Rattle.landing_rules.specs.Rules.{last_second}
use Rattle.texts.specs.Parts.{parts}
use Rattle.cps_base.specs.Number.{number_within}
use Rattle.landing_windows.specs.Windows.{windows_of}
use Rattle.landing_windows.specs.declared.windows.WindowFault.TheVariants as window
use Rattle.flight_file.specs.declared.fault.WindowsCause.{WindowsCause}
use Rattle.flight_file.specs.declared.fault.WindowsCause.TheVariants.{Shape, Number, Set}

-- a second of part i
abbrev pub second_in : ℕ → List ℕ → Result ℕ WindowsCause
second_in i text = fault_as (λ e. Number i e) (number_within text 0 last_second)

-- part i, cut at each `-`
abbrev pub window_by : ℕ → List (List ℕ) → Result (ℕ × ℕ) WindowsCause
window_by i (first ∷ last ∷ []) = second_in i first >>= (λ a. second_in i last >>= (λ b. Ok (a, b)))
window_by i ps = Err (Shape i)

-- the window that part i is: `first-last`
unfoldable pub window_in : ℕ → List ℕ → Result (ℕ × ℕ) WindowsCause
window_in i text = window_by i (parts 45 text)

-- the windows that parts are, from part i on
unfoldable pub windows_from : ℕ → List (List ℕ) → Result (List (ℕ × ℕ)) WindowsCause
windows_from i [] = Ok []
windows_from i (p ∷ ps) = window_in i p >>= (λ w. windows_from (i + 1) ps >>= (λ ws. Ok (w ∷ ws)))

-- the windows of a text, which is cut at each `;`
unfoldable pub windows_in : List ℕ → Result (List (ℕ × ℕ)) WindowsCause
windows_in text =
    if length text == 0 then Err (Set window.Empty)
    else if nat_lt most_windows (length (parts 59 text)) then Err (Set window.TooMany)
    else (windows_from 1 (parts 59 text) >>= (λ ws. fault_as Set (windows_of ws)))
