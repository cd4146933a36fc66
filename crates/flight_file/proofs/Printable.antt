-- Flights that a file can give, one by one: each keeps what its types keep, and its callsign is new.
use Rattle.std.proofs.Common.{◌≡◌, ◌≢◌, ℕ, suc, ◌≤◌, List, [], ◌∷◌, ◌++◌, true, false, length, Ok, sym}
use Rattle.std.proofs.Common.{arith, append_assoc, length-append}
use Rattle.std.proofs.lemmas.Grind.{common_steps}
use Rattle.std.specs.Prelude.{⊤, All, AllPairs, bytes_eq}
use Rattle.std.specs.List.{list_any}
use Rattle.std.proofs.lemmas.List.Folds.{list_any_none}
use Rattle.cps_base.specs.Limits.{most_predecessors}
use Rattle.cps_base.specs.Text.{is_callsign}
use Rattle.landing_rules.specs.Rules.{last_second}
use Rattle.landing_windows.specs.Windows.{windows_of}
use Rattle.arrivals.specs.declared.flight.Flight.{Flight}
use Rattle.flight_file.specs.Reading.{has_callsign}
use Rattle.flight_file.proofs.Names.{unlike}
use Rattle.arrivals.specs.Flights.{IsArrival, AreArrivals}
use Rattle.flight_file.specs.Kept.{AreCallsigns, IsKept, AreKept}

abbrev pub AreInDays : List (ℕ × ℕ) → Type 0
AreInDays [] = ⊤
AreInDays (w ∷ ws) = ((w.0 ≤ last_second) × (w.1 ≤ last_second)) × AreInDays ws

-- callsigns, none the flight's own and none twice
abbrev pub AreNewNames : List ℕ → List (List ℕ) → List (List ℕ) → Type 0
AreNewNames own before [] = ⊤
AreNewNames own before (n ∷ names) =
    ((is_callsign n ≡ true) × (bytes_eq n own ≡ false) × (list_any (bytes_eq n) before ≡ false))
    × AreNewNames own (before ++ n ∷ []) names

pub record IsPrintable (f : Flight) : Type 0 where
  pub callsign : is_callsign f.callsign ≡ true
  pub eta : f.eta ≤ last_second
  pub weight : (1 ≤ f.weight) × (f.weight ≤ 100)
  pub windows : windows_of f.windows ≡ Ok f.windows
  pub in_days : AreInDays f.windows
  pub after : AreNewNames f.callsign [] f.after
  pub few_after : length f.after ≤ most_predecessors

abbrev pub ArePrintable : List Flight → List Flight → Type 0
ArePrintable before [] = ⊤
ArePrintable before (f ∷ fs) = IsPrintable f × (has_callsign before f.callsign ≡ false)
    × ArePrintable (before ++ f ∷ []) fs

in_days : (ws : List (ℕ × ℕ)) → All (λ w. (w.0 ≤ w.1) × (w.1 ≤ last_second)) ws → AreInDays ws
in_days [] h = tt
in_days (w ∷ ws) h =
    let here = h 0 w (omega arith) in
    ((omega (arith, here), here.1), in_days ws (λ k d below. h (suc k) d (omega arith)))

-- an element that differs from each later one differs from the one behind it
apart : {X : Type 0} (key : X → List ℕ) (before : List X) (x : X) (xs : List X)
    → AllPairs (λ a b. key a ≢ key b) (before ++ x ∷ xs) → All (λ b. key b ≢ key x) before
apart key before x xs pairs k d below =
    let differ = pairs k (length before) d below (omega (arith, length-append before (x ∷ xs))) in
    grind (arith, common_steps)

new_names : (own : List ℕ) (before names : List (List ℕ)) → AreCallsigns names → All (λ name. name ≢ own) names
    → AllPairs (λ name later. name ≢ later) (before ++ names) → AreNewNames own before names
new_names own before [] calls differ pairs = tt
new_names own before (n ∷ names) calls differ pairs = (
  (
    calls.0,
    unlike n own (differ 0 n (omega arith)),
    list_any_none (bytes_eq n) before
        (λ k d below. unlike n _ (λ same. apart (λ name. name) before n names pairs k d below (sym same))),
  ),
  new_names own (before ++ n ∷ []) names calls.1 (λ k d below. differ (suc k) d (omega arith))
      (rw (append_assoc before (n ∷ []) names) pairs),
)

printable : (f : Flight) → IsArrival f → IsKept f → IsPrintable f
printable f can kept = grind (arith, in_days, new_names)

all_printable : (before flights : List Flight) → All IsArrival flights → AreKept flights
    → AllPairs (λ f later. f.callsign ≢ later.callsign) (before ++ flights) → ArePrintable before flights
all_printable before [] can kept pairs = tt
all_printable before (f ∷ flights) can kept pairs = (
  printable f (can 0 f (omega arith)) kept.0,
  list_any_none (λ g. bytes_eq g.callsign f.callsign) before
      (λ k d below. unlike _ f.callsign (apart (λ g. g.callsign) before f flights pairs k d below)),
  all_printable (before ++ f ∷ []) flights (λ k d below. can (suc k) d (omega arith)) kept.1
      (rw (append_assoc before (f ∷ []) flights) pairs),
)

pub are_printable : (flights : List Flight) → AreArrivals flights → AreKept flights → ArePrintable [] flights
are_printable flights can kept = all_printable [] flights can.flights kept can.callsigns
