-- What the types of a flight's fields keep.
use Rattle.std.specs.Prelude.{⊤, ◌≡◌, ℕ, ◌≤◌, List, [], ◌∷◌, true, length, Ok}
use Rattle.cps_base.specs.Limits.{most_predecessors}
use Rattle.cps_base.specs.Text.{is_callsign}
use Rattle.landing_rules.specs.Sound.{AreGoodWindows}
use Rattle.landing_windows.specs.Windows.{windows_of}
use Rattle.arrivals.specs.declared.flight.Flight.{Flight}

abbrev pub AreCallsigns : List (List ℕ) → Type 0
AreCallsigns [] = ⊤
AreCallsigns (name ∷ names) = (is_callsign name ≡ true) × AreCallsigns names

pub record IsKept (f : Flight) : Type 0 where
  pub callsign : is_callsign f.callsign ≡ true
  pub windows : windows_of f.windows ≡ Ok f.windows
  pub good : AreGoodWindows f.windows
  pub names : AreCallsigns f.after
  pub few : length f.after ≤ most_predecessors

abbrev pub AreKept : List Flight → Type 0
AreKept [] = ⊤
AreKept (f ∷ flights) = IsKept f × AreKept flights
