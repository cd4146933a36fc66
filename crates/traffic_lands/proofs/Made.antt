-- Each flight that a state makes lands 120 seconds later after its estimate than the one before it.
use Rattle.std.proofs.Common.{◌≡◌, ℕ, zero, suc, ◌+◌, ◌-◌, ◌*◌, ◌<◌, ◌≤◌, inl, inr, List, [], ◌∷◌, length, map}
use Rattle.std.proofs.Common.{refl, sym, ap, ◌∙◌, arith}
use Rattle.cps_base.specs.Limits.{most_waiting}
use Rattle.landing_rules.specs.Events.{Opening, opening_flight}
use Rattle.landing_rules.specs.Flights.{Active, Landing, Schedule, landing, landings}
use Rattle.landing_rules.specs.shared.Counting.{Member}
use Rattle.landing_rules.specs.shared.OneList.{AscendBy}
use Rattle.arrivals.specs.Seen.{flight_of}
use Rattle.situations.specs.Opened.{opened, opening_of}
use Rattle.traffic_gen.specs.Draws.{drawn, next}
use Rattle.traffic_gen.specs.Flights.{after_three, flight, flights_from}
use Rattle.traffic_gen.specs.Made.{traffic}
use Rattle.traffic_gen.specs.Sample.{aerodrome_with}
use Rattle.traffic_lands.specs.Landing.{TrafficLandsLaw}
use Rattle.traffic_lands.proofs.EasyLandings.{IsBehind, IsEasy, keeps}

drawn_below : (most x : ℕ) → 0 < most → drawn most x < most
unfolding drawn
drawn_below most x some = omega arith

-- when the flight of a number lands
abbrev second : ℕ → ℕ → ℕ → ℕ
second number before x = before + 60 + drawn 60 (next x) + 120 * (number - 1)

abbrev seconds_from : ℕ → ℕ → ℕ → ℕ → Schedule
seconds_from zero number before x = []
seconds_from (suc n) number before x =
    second number before x ∷ seconds_from n (number + 1) (before + 60 + drawn 60 (next x)) (after_three x)

length-seconds : (n number before x : ℕ) → length (seconds_from n number before x) ≡ n
length-seconds zero number before x = refl
length-seconds (suc n) number before x =
    ap suc (length-seconds n (number + 1) (before + 60 + drawn 60 (next x)) (after_three x))

module _ (k : ℕ) where
  abbrev opening : Opening
  opening = opening_of (aerodrome_with k)

  abbrev active_from : ℕ → ℕ → ℕ → ℕ → List Active
  active_from n number before x = map (opening_flight opening) (map flight_of (flights_from n number before x))

  abbrev landed : ℕ → ℕ → ℕ → ℕ → List Landing
  landed n number before x = landings (active_from n number before x) (seconds_from n number before x)

  length-active : (n number before x : ℕ) → length (active_from n number before x) ≡ n
  unfolding flights_from
  length-active zero number before x = refl
  length-active (suc n) number before x =
      ap suc (length-active n (number + 1) (before + 60 + drawn 60 (next x)) (after_three x))

  abbrev first : ℕ → ℕ → ℕ → Landing
  first number before x = landing (opening_flight opening (flight_of (flight number before x))) (second number before x)

  first_eta : (number before x : ℕ) → (first number before x).flight.eta ≡ before + 60 + drawn 60 (next x)
  unfolding flight
  first_eta number before x = refl

  first_easy : (number before x : ℕ) → number ≤ most_waiting → before ≤ 20000 → IsEasy (first number before x)
  unfolding flight
  first_easy number before x few early = grind (arith, drawn_below)

  all_easy : (n number before x : ℕ) → number + n ≤ most_waiting + 1 → before + 119 * n ≤ 20000 → (f : Landing)
      → Member f (landed n number before x) → IsEasy f
  unfolding flights_from
  all_easy zero number before x few early f i = absurd i
  all_easy (suc n) number before x few early f (inl e) = grind (arith, first_easy)
  all_easy (suc n) number before x few early f (inr i) =
      let below = drawn_below 60 (next x) (omega arith) in
      all_easy n (number + 1) (before + 60 + drawn 60 (next x)) (after_three x) (omega (arith, few))
      (omega (arith, early, below)) f i

  -- those from a number on
  all_later : (n number before x : ℕ) → (f : Landing) → Member f (landed n number before x)
      → (before + 60 ≤ f.flight.eta) × (before + 60 + 120 * (number - 1) ≤ f.second)
  unfolding flights_from
  all_later zero number before x f i = absurd i
  all_later (suc n) number before x f (inl e) = grind (arith, first_eta)
  all_later (suc n) number before x f (inr i) =
      let rest = all_later n (number + 1) (before + 60 + drawn 60 (next x)) (after_three x) f i in
      let eta = rest.0 in
      let at = rest.1 in
      (omega (arith, eta), omega (arith, at))

  ascends : (n number before x : ℕ) → 1 ≤ number → AscendBy IsBehind (landed n number before x)
  unfolding flights_from
  ascends zero number before x one = tt
  ascends (suc n) number before x one = (
    λ f i. (
        let rest = all_later n (number + 1) (before + 60 + drawn 60 (next x)) (after_three x) f i in
        let here = first_eta number before x in
        let eta = rest.0 in
        let at = rest.1 in
        (omega (arith, here, eta), omega (arith, at, one))),
    ascends n (number + 1) (before + 60 + drawn 60 (next x)) (after_three x) (omega arith),
  )

pub lands : TrafficLandsLaw
lands seed n k few = (
  _,
  (
    length-seconds n 1 3600 seed ∙ sym (length-active k n 1 3600 seed),
    keeps (landed k n 1 3600 seed)
        (all_easy k n 1 3600 seed (omega (arith, few)) (omega (arith, few))) (ascends k n 1 3600 seed (omega
        arith)) k (opened (traffic seed n k).aerodrome (traffic seed n k).flights) refl refl refl refl,
  ),
)
