-- What the parts of a field are, one after the other.
use Rattle.std.proofs.Common.{◌≡◌, ℕ, ◌+◌, List, [], ◌∷◌, Ok, Err, Result, ◌++◌, append_assoc, arith}
use Rattle.std.proofs.lemmas.Grind.{common_steps}
use Rattle.cps_base.specs.Answers.{◌>>=◌}
use Rattle.flight_file.specs.Windows.{window_in, windows_from}
use Rattle.std.specs.Prelude.{IsTrue}
use Rattle.std.specs.List.{list_all}
use Rattle.landing_windows.specs.Windows.{is_in_days}

-- what was read before, and then the rest
abbrev pub with_front : {X E : Type 0} → List X → Result (List X) E → Result (List X) E
with_front front (Ok rest) = Ok (front ++ rest)
with_front front (Err e) = Err e

-- one more window, a part that is none, and the end
front_more : {X E : Type 0} (front : List X) (x : X) (r : Result (List X) E)
    → with_front front (r >>= (λ xs. Ok (x ∷ xs))) ≡ with_front (front ++ x ∷ []) r
front_more front x r = grind (arith, append_assoc)

pub window_more : (i : ℕ) (front : List (ℕ × ℕ)) (p : List ℕ) (ps : List (List ℕ)) (w : ℕ × ℕ)
    → window_in i p ≡ Ok w → with_front front (windows_from i (p ∷ ps)) ≡ with_front (front ++ w ∷ [])
    (windows_from (i + 1) ps)
unfolding windows_from
window_more i front p ps w e = rw e (front_more front w (windows_from (i + 1) ps))

-- one window more of the two days
pub days_more : (front : List (ℕ × ℕ)) (w : ℕ × ℕ) → IsTrue (list_all is_in_days front) → IsTrue (is_in_days w)
    → IsTrue (list_all is_in_days (front ++ w ∷ []))
days_more front w h here = grind (arith, common_steps)
