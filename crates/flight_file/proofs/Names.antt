-- Callsigns that differ, by the test of their bytes and as such; and one more name or flight behind others.
use Rattle.std.proofs.Common.{rules, ◌≡◌, ◌≢◌, ℕ, ◌<◌, List, length, get_or, true, false, ◌+◌, ◌++◌, ◌∷◌, [], arith}
use Rattle.std.proofs.Common.{refl, length-append, Result, Ok, Err}
use Rattle.std.specs.Prelude.{All, bytes_eq, IfOk}
use Rattle.std.specs.List.{list_any}
use Rattle.std.proofs.lemmas.Bool.{cases_Bool}
use Rattle.std.proofs.lemmas.List.Folds.{list_any_at}
use Rattle.std.proofs.lemmas.List.Elements.{All-push}
use Rattle.std.proofs.lemmas.List.Quantifiers.{all_pairs_push}
use Rattle.cps_base.specs.Answers.{◌>>=◌}
use Rattle.arrivals.specs.Flights.{AreOthers, IsArrival, AreArrivals}
use Rattle.cps_base.specs.Limits.{most_flights}
use Rattle.flight_file.specs.After.{name_in, names_from}
use Rattle.flight_file.specs.declared.fault.AfterCause.{AfterCause}
use Rattle.flight_file.specs.declared.fault.FlightCause.{FlightCause}
use Rattle.flight_file.specs.Reading.{has_callsign}
use Rattle.arrivals.specs.declared.flight.Flight.{Flight}
use Rattle.std.proofs.lemmas.Slice.Eq.{bytes_eq-Decides}

pub unlike : (a b : List ℕ) → a ≢ b → bytes_eq a b ≡ false
unlike a b other = grind (arith, cases_Bool, bytes_eq, bytes_eq-Decides)

pub unlike_text : (a b : List ℕ) → bytes_eq a b ≡ false → a ≢ b
unlike_text a b differ same = search rules

pub none_alike : (name : List ℕ) (earlier : List (List ℕ)) → list_any (bytes_eq name) earlier ≡ false
    → All (λ e. e ≢ name) earlier
none_alike name earlier none k d below same = grind (arith, bytes_eq, bytes_eq-Decides, list_any, list_any_at)

-- one predecessor more
pub others_more : (own : List ℕ) (names : List (List ℕ)) (name : List ℕ) → AreOthers own names
    → name ≢ own → All (λ earlier. earlier ≢ name) names → AreOthers own (names ++ name ∷ [])
others_more own names name others other new = record {
  other = All-push (λ n. n ≢ own) names name others.other other;
  once = all_pairs_push (λ n later. n ≢ later) names name others.once new;
}

-- a part that names a predecessor names another flight, and none of those before
name_new : (own : List ℕ) (i : ℕ) (before : List (List ℕ)) (text name : List ℕ) → name_in own i before text ≡ Ok name
    → (name ≢ own) × All (λ earlier. earlier ≢ name) before
name_new own i before text name e = grind (arith, cases_Bool, bytes_eq, list_any, unlike_text, none_alike)

-- the predecessors that parts name are others
pub names_given : (own : List ℕ) (i : ℕ) (before parts names : List (List ℕ)) → names_from own i before parts ≡ Ok names
    → AreOthers own before → AreOthers own names
unfolding names_from
names_given own i before [] names e h = let same : before ≡ names = cc in rw (← same) h
names_given own i before (p ∷ ps) names e h =
    by (name_in own i before p) refl e (λ c. names_given own (i + 1) (before ++ c ∷ []) ps names)
  where
    by : (r : Result (List ℕ) AfterCause) → name_in own i before p ≡ r
        → (r >>= (λ c. names_from own (i + 1) (before ++ c ∷ []) ps)) ≡ Ok names
        → ((c : List ℕ) → names_from own (i + 1) (before ++ c ∷ []) ps ≡ Ok names → AreOthers own (before ++ c ∷ [])
        → AreOthers own names)
        → AreOthers own names
    by (Ok c) named rest more = let new =
        name_new own i before p c named in more c rest (others_more own before c h new.0 new.1)
    by (Err x) named rest more = absurd (cc rest)

-- one flight more
pub flights_more : (fs : List Flight) (f : Flight) → AreArrivals fs → IsArrival f → has_callsign fs f.callsign ≡ false
    → length fs < most_flights → AreArrivals (fs ++ f ∷ [])
flights_more fs f can here new room = record {
  few = omega (arith, length-append fs (f ∷ []));
  flights = All-push IsArrival fs f can.flights here;
  callsigns = all_pairs_push (λ g later. g.callsign ≢ later.callsign) fs f can.callsigns (λ k d below same.
      let alike : bytes_eq (get_or fs k d).callsign f.callsign ≡ true =
      (bytes_eq-Decides (get_or fs k d).callsign f.callsign).1 same in
      let some : has_callsign fs f.callsign ≡ true =
      list_any_at (λ g. bytes_eq g.callsign f.callsign) fs k d below alike in
      absurd (cc));
}

-- the flight that a record gives joins those before
pub holds_more : (fs : List Flight) (r : Result Flight FlightCause) → IfOk r IsArrival
    → IfOk r (λ f. has_callsign fs f.callsign ≡ false)
    → IfOk r (λ f. AreArrivals fs → length fs < most_flights → AreArrivals (fs ++ f ∷ []))
holds_more fs (Ok f) here new = λ are room. flights_more fs f are here new room
holds_more fs (Err e) here new = tt
