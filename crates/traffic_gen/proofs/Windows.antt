-- One window of two hours is a good list of windows.
use Rattle.std.proofs.Common.{◌≡◌, ℕ, ◌+◌, [], ◌∷◌, Ok, arith}
use Rattle.std.proofs.lemmas.Grind.{common_steps}
use Rattle.landing_windows.specs.Windows.{bad_span, seconds_in, windows_of}

pub one_window : (eta : ℕ) → windows_of ((eta, eta + 7199) ∷ []) ≡ Ok ((eta, eta + 7199) ∷ [])
unfolding windows_of bad_span seconds_in
one_window eta = grind (arith, common_steps)
