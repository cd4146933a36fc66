-- Why an aerodrome file and its flights open no situation: the first test that fails, and where.
use Rattle.std.specs.Prelude.{◌≡◌, ℕ, ◌+◌, ◌≤◌, Bool, true, ◌&&◌, List, [], ◌∷◌, Option, Some, None, All, length}
use Rattle.std.specs.Prelude.{nat_le, filter, filter_map, find, option_map, if◌then◌else◌}
use Rattle.std.specs.Option.{option_or}
use Rattle.std.specs.List.{list_any}
use Rattle.wake_table.specs.Table.{IsWakeTable}
use Rattle.landing_rules.specs.Flights.{Callsign, Span, Active, Landing, landing, is_waiting}
use Rattle.cps_base.specs.Limits.{most_closures, most_waiting}
use Rattle.landing_rules.specs.Rules.{is_open}
use Rattle.landing_rules.specs.Events.{named}
use Rattle.landing_rules.specs.Audit.{are_apart}
use Rattle.landing_rules.specs.Sound.{IsSound}
use Rattle.arrivals.specs.declared.aerodrome.Aerodrome as aerodromes
use Rattle.arrivals.specs.declared.frozen_list.FrozenLanding.{FrozenLanding}
use Rattle.arrivals.specs.declared.passed_list.PassedCount.{PassedCount}
use Rattle.arrivals.specs.declared.flight.Flight as files
use Rattle.arrivals.specs.Seen.{flight_of}
use Rattle.situations.specs.declared.opening_refusal.OpeningFault.{OpeningFault}
use Rattle.situations.specs.declared.opening_refusal.OpeningFault.TheVariants as fault
use Rattle.situations.specs.Opened.{opened, CanOpen, IsKept}

-- ---- the first of a list

-- the fault of what fails its test
abbrev pub unless : Bool → OpeningFault → Option OpeningFault
unless passes f = if passes then None else Some f

-- the first fault among those of the elements, where the first one is at place i
abbrev pub first_from : {X : Type 0} → (ℕ → X → Option OpeningFault) → ℕ → List X → Option OpeningFault
first_from fault_at i [] = None
first_from fault_at i (x ∷ rest) = option_or (fault_at i x) (first_from fault_at (i + 1) rest)

-- ---- the names

-- an entry of `frozen` names a flight of the file
abbrev pub unknown_frozen_at : List Active → ℕ → FrozenLanding → Option OpeningFault
unknown_frozen_at active i entry = unless (list_any (named entry.callsign) active) (fault.UnknownFrozen i)

-- an entry of `passed` names a waiting flight of the file
abbrev pub is_waiting_there : List Active → Callsign → Bool
is_waiting_there active c = list_any (λ a. named c a && is_waiting a) active

abbrev pub unknown_passed_at : List Active → ℕ → PassedCount → Option OpeningFault
unknown_passed_at active i entry = unless (is_waiting_there active entry.callsign) (fault.UnknownPassed i)

-- as many flights as may wait are not frozen, or fewer
abbrev pub too_many_waiting : List Active → Option OpeningFault
too_many_waiting active =
    unless (nat_le (length (filter is_waiting active)) most_waiting)
    (fault.TooManyWaiting (length (filter is_waiting active)))

abbrev pub name_fault : aerodromes.Aerodrome → List Active → Option OpeningFault
name_fault a active =
    option_or (first_from (unknown_frozen_at active) 1 a.frozen)
    (option_or (first_from (unknown_passed_at active) 1 a.passed)
    (too_many_waiting active))

-- ---- the rules over the frozen landings

-- the landings that `frozen` gives, in its order: once no name is unknown each entry has one
abbrev pub given_landing : List Active → FrozenLanding → Option Landing
given_landing active entry = option_map (λ a. landing a entry.second) (find (named entry.callsign) active)

abbrev pub given : List Active → List FrozenLanding → List Landing
given active entries = filter_map (given_landing active) entries

-- its second is open for its flight
abbrev pub closed_at : List Span → ℕ → Landing → Option OpeningFault
closed_at closures i g = unless (is_open g.flight.windows closures g.second) (fault.FrozenClosed i)

-- landing g at place i is the table's time from the landing at place j, whichever is the earlier
abbrev pub clash_at : List (List ℕ) → ℕ → Landing → ℕ → Landing → Option OpeningFault
clash_at table i g j h = unless (are_apart table g h) (fault.FrozenSeparation i j)

-- each two landings, the first by its place and then the second by its own
abbrev pub clash_from : List (List ℕ) → ℕ → List Landing → Option OpeningFault
clash_from table i [] = None
clash_from table i (g ∷ rest) = option_or (first_from (clash_at table i g) (i + 1) rest) (clash_from table (i + 1) rest)

-- the flight waits, or is frozen at this second or later
abbrev pub is_not_before : ℕ → Option ℕ → Bool
is_not_before second None = true
is_not_before second (Some t) = nat_le second t

abbrev pub lands_late : List Active → ℕ → Callsign → Bool
lands_late active second c = list_any (λ a. named c a && is_not_before second a.frozen) active

-- each active flight of its list is frozen at an earlier second
abbrev pub late_at : List Active → ℕ → Landing → Option OpeningFault
late_at active i g = option_map (fault.FrozenPrecedence i) (find (lands_late active g.second) g.flight.after)

abbrev pub rule_fault : aerodromes.Aerodrome → List Active → List Landing → Option OpeningFault
rule_fault a active all =
    option_or (first_from (closed_at a.closures) 1 all)
    (option_or (clash_from a.table 1 all)
    (first_from (late_at active) 1 all))

-- ---- all of them

abbrev pub fault_of : aerodromes.Aerodrome → List Active → Option OpeningFault
fault_of a active = option_or (name_fault a active) (rule_fault a active (given active a.frozen))

-- none exactly where the opening situation exists
abbrev pub opening_fault : aerodromes.Aerodrome → List files.Flight → Option OpeningFault
opening_fault a fs = fault_of a (opened a fs).active

abbrev pub IsOpenable : aerodromes.Aerodrome → List files.Flight → Type 0
IsOpenable a fs = CanOpen a fs × (opening_fault a fs ≡ None)

-- files without entries open where no more flights are there than may wait
abbrev pub PlainLaw : Type 0
PlainLaw = (a : aerodromes.Aerodrome) (fs : List files.Flight) → a.frozen ≡ [] → a.passed ≡ []
    → length fs ≤ most_waiting → opening_fault a fs ≡ None

-- what the types of the table, the closures and the flights keep
pub record AreKept (a : aerodromes.Aerodrome) (fs : List files.Flight) : Type 0 where
  pub table : IsWakeTable a.table
  pub closures : length a.closures ≤ most_closures
  pub flights : All (λ f. IsKept (flight_of f)) fs

-- what opens is a situation that a run can be in
abbrev pub OpeningLaw : Type 0
OpeningLaw = (a : aerodromes.Aerodrome) (fs : List files.Flight) → AreKept a fs → IsOpenable a fs
    → IsSound (opened a fs)
