-- What an accepted certificate means, in the words of the rules.
use Rattle.std.specs.Prelude.{◌≡◌, ℕ, ◌≤◌, length, bytes_eq, count_by}
use Rattle.landing_rules.specs.Flights.{Schedule}
use Rattle.landing_rules.specs.Problem.{Problem, IsFeasibleList, IsBestList, list_objective}
use Rattle.cert_check.specs.Landings.{Landings, count, flight, seconds}

-- each waiting flight lands once, and nothing else does
pub record AreItsLandings (p : Problem) (ls : Landings) : Type 0 where
  pub as_many : length ls ≡ count p
  pub each_once : (r : ℕ) → 1 ≤ r → r ≤ count p → count_by (λ l. bytes_eq l.0 (flight p r).callsign) ls ≡ 1

-- the listed landings are a best list, with this objective
pub record IsShownOptimal (p : Problem) (ls : Landings) (v : ℕ) : Type 0 where
  pub landings : AreItsLandings p ls
  pub best : IsBestList p (seconds p ls)
  pub value : list_objective p (seconds p ls) ≡ v

-- no list is feasible
abbrev pub NothingIsFeasible : Problem → Type 0
NothingIsFeasible p = (t : Schedule) → IsFeasibleList p t → ⊥
