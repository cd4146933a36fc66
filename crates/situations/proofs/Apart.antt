-- Callsigns that are apart stay so, and what changes a flight leaves its callsign.
use Rattle.std.proofs.lemmas.Grind.{common_steps}
use Rattle.std.proofs.Common.{◌≡◌, ◌≢◌, ℕ, zero, suc, ◌<◌, false, cond, List, [], ◌∷◌, length, map, zip, get_or, refl}
use Rattle.std.proofs.Common.{sym, ap, ◌∙◌, arith}
use Rattle.std.specs.Prelude.{AllPairs}
use Rattle.std.proofs.lemmas.List.{length-map, get_or-map}
use Rattle.landing_rules.specs.Flights.{Active, Callsign, Flight}
use Rattle.landing_rules.specs.Events.{named, opening_flight}
use Rattle.arrivals.specs.declared.aerodrome.Aerodrome.{Aerodrome}
use Rattle.arrivals.specs.declared.flight.Flight as files
use Rattle.arrivals.specs.Seen.{flight_of}
use Rattle.situations.specs.Opened.{opened, opening_of}
use Rattle.situations.specs.declared.freeze.Freeze.{Freeze}
use Rattle.situations.specs.Freezes.{frozen_one}
use Rattle.situations.specs.Seen.{AreApart}

abbrev pub name_of : Active → Callsign
name_of a = a.flight.callsign

pub tail_apart : (a : Active) (xs : List Active) → AreApart (a ∷ xs) → AreApart xs
tail_apart a xs apart i j d lt le = apart (suc i) (suc j) d (omega arith) (omega arith)

-- ---- a change of the flight that has a callsign

module _ (c : Callsign) (g : Active → Active) where
  abbrev pub at_named : Active → Active
  at_named a = cond (named c a) (g a) a

  -- a flight of another callsign stays
  pub other : (a : Active) → named c a ≡ false → at_named a ≡ a
  other a e = cc

  -- flights of other callsigns stay
  pub others : (xs : List Active) → ((j : ℕ) (d : Active) → j < length xs → named c (get_or xs j d) ≡ false)
      → map at_named xs ≡ xs
  others [] none = refl
  others (x ∷ xs) none = ap (λ y. y ∷ map at_named xs) (other x (none zero x (omega arith)))
      ∙ ap (λ l. x ∷ l) (others xs (λ j d lt. none (suc j) d (omega arith)))

  pub names_kept : ((a : Active) → name_of a ≡ name_of (g a)) → (xs : List Active)
      → map name_of xs ≡ map name_of (map at_named xs)
  names_kept keeps [] = refl
  names_kept keeps (x ∷ xs) = grind (arith, common_steps, names_kept keeps xs)

-- ---- a clock event

pub names_frozen : (z : Freeze) (xs : List Active) (ts : List ℕ) → length xs ≡ length ts
    → map name_of xs ≡ map name_of (map (λ p. frozen_one z p.0 p.1) (zip xs ts))
names_frozen z [] ts n = refl
names_frozen z (x ∷ xs) [] n = cc
names_frozen z (x ∷ xs) (t ∷ ts) n = grind (arith, common_steps, names_frozen z xs ts (omega arith))

-- ---- the opening

pub opened_apart : (a : Aerodrome) (fs : List files.Flight) → AllPairs (λ f later. f.callsign ≢ later.callsign) fs
    → AreApart (opened a fs).active
opened_apart a fs apart i j d lt le same =
    let n : length (opened a fs).active ≡ length fs = length-map (map flight_of fs) made ∙ length-map fs flight_of in
    let g : files.Flight = record {
      callsign = d.flight.callsign;
      category = d.flight.category;
      eta =
          d.flight.eta;
      weight = d.flight.weight;
      windows = d.flight.windows;
      after = d.flight.after;
    } in
    let name : (k : ℕ) → k < length fs → (get_or (opened a fs).active k d).flight.callsign ≡ (get_or fs k g).callsign =
    λ k lk. ap name_of (at k lk) ∙ ap (λ (z : Flight). z.callsign) (get_or-map flight_of fs k g d.flight lk) in
    apart i j g lt (omega arith) (sym (name i (omega arith)) ∙ same ∙ name j (omega arith))
  where
    made : Flight → Active
    made f = opening_flight (opening_of a) f

    at : (k : ℕ) → k < length fs → get_or (opened a fs).active k d ≡ made (get_or (map flight_of fs) k d.flight)
    at k lk = grind (arith, common_steps)
