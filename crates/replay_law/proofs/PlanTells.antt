-- The landings that are shown, in their order, tell the second of each flight, where the callsigns differ.
use Rattle.std.proofs.Common.{◌≡◌, ℕ, List, [], ◌∷◌, true, false, Option, Some, None, length, refl, sym}
use Rattle.std.proofs.Common.{◌∙◌, arith, inl, inr}
use Rattle.std.specs.Prelude.{map, ⊤, bytes_eq, if◌then◌else◌}
use Rattle.std.proofs.lemmas.Bool.{cases_Bool}
use Rattle.std.proofs.lemmas.Option.{same_Some}
use Rattle.std.proofs.lemmas.Slice.Eq.{bytes_eq-Decides}
use Rattle.landing_rules.specs.Flights.{Callsign, Active, Schedule, Landing, landings}
use Rattle.landing_rules.specs.Events.{insert_landing, in_landing_order}
use Rattle.landing_rules.specs.Text.{ShownLanding, shown_landing}

-- the second at which the first landing of this callsign is shown
abbrev second_of : Callsign → List ShownLanding → Option ℕ
second_of c [] = None
second_of c (l ∷ ls) = if bytes_eq l.callsign c then Some l.second else second_of c ls

abbrev second_in : Callsign → List Landing → Option ℕ
second_in c fs = second_of c (map shown_landing fs)

abbrev NotAmong : Callsign → List Landing → Type 0
NotAmong c [] = ⊤
NotAmong c (f ∷ fs) = (bytes_eq f.flight.callsign c ≡ false) × NotAmong c fs

abbrev AreApart : List Landing → Type 0
AreApart [] = ⊤
AreApart (f ∷ fs) = NotAmong f.flight.callsign fs × AreApart fs

not_in_insert : (c : Callsign) (f : Landing) (fs : List Landing) → bytes_eq f.flight.callsign c ≡ false
    → NotAmong c fs → NotAmong c (insert_landing f fs)
not_in_insert c f [] h n = (h, tt)
not_in_insert c f (g ∷ fs) h n = grind (arith, cases_Bool, not_in_insert c f fs h n.1)

not_in_order : (c : Callsign) (fs : List Landing) → NotAmong c fs → NotAmong c (in_landing_order fs)
not_in_order c [] n = tt
not_in_order c (f ∷ fs) n = not_in_insert c f (in_landing_order fs) n.0 (not_in_order c fs n.1)

in_insert : (c : Callsign) (f : Landing) (fs : List Landing) → (bytes_eq f.flight.callsign c ≡ true → NotAmong c fs)
    → second_in c (insert_landing f fs) ≡ second_in c (f ∷ fs)
in_insert c f [] h = refl
in_insert c f (g ∷ fs) h = grind (arith, cases_Bool, in_insert c f fs (λ e. (h e).1))

-- of two texts that are one, no landing that has the first has the second
same_among : (b c : Callsign) (fs : List Landing) → bytes_eq b c ≡ true → NotAmong b fs → NotAmong c fs
same_among b c fs e n = rw (← (bytes_eq-Decides b c).0 e) n

in_order : (c : Callsign) (fs : List Landing) → AreApart fs → second_in c (in_landing_order fs) ≡ second_in c fs
in_order c [] h = refl
in_order c (f ∷ fs) h = grind (arith, in_insert, not_in_order, same_among, in_order c fs h.1)

none_in : (c : Callsign) (fs : List Landing) → NotAmong c fs → second_in c fs ≡ None
none_in c [] n = refl
none_in c (f ∷ fs) n = rw n.0 (none_in c fs n.1)

-- ---- active flights with differing callsigns

abbrev pub NotNamed : Callsign → List Active → Type 0
NotNamed c [] = ⊤
NotNamed c (a ∷ rest) = (bytes_eq a.flight.callsign c ≡ false) × NotNamed c rest

abbrev pub AreNamedApart : List Active → Type 0
AreNamedApart [] = ⊤
AreNamedApart (a ∷ rest) = NotNamed a.flight.callsign rest × AreNamedApart rest

not_landing : (c : Callsign) (active : List Active) (t : Schedule) → NotNamed c active → NotAmong c (landings active t)
not_landing c [] t n = tt
not_landing c (a ∷ rest) [] n = tt
not_landing c (a ∷ rest) (x ∷ t) n = (n.0, not_landing c rest t n.1)

apart_landings : (active : List Active) (t : Schedule) → AreNamedApart active → AreApart (landings active t)
apart_landings [] t h = tt
apart_landings (a ∷ rest) [] h = tt
apart_landings (a ∷ rest) (x ∷ t) h = (not_landing a.flight.callsign rest t h.0, apart_landings rest t h.1)

-- schedules that give each callsign the same second are the same
same_seconds : (active : List Active) (t u : Schedule) → AreNamedApart active → length t ≡ length active
    → length u ≡ length active →
    ((c : Callsign) → second_in c (landings active t) ≡ second_in c (landings active u)) → t ≡ u
same_seconds [] [] [] h m n e = refl
same_seconds [] [] (y ∷ u) h m n e = absurd (omega (arith, n))
same_seconds [] (x ∷ t) u h m n e = absurd (omega (arith, m))
same_seconds (a ∷ rest) [] u h m n e = absurd (omega (arith, m))
same_seconds (a ∷ rest) (x ∷ t) [] h m n e = absurd (omega (arith, n))
same_seconds (a ∷ rest) (x ∷ t) (y ∷ u) h m n e =
    let own : bytes_eq a.flight.callsign a.flight.callsign ≡ true =
    (bytes_eq-Decides a.flight.callsign a.flight.callsign).1 refl in
    let head : x ≡ y = same_Some x y (rw own at (e a.flight.callsign)) in
    let tails : (c : Callsign) → second_in c (landings rest t) ≡ second_in c (landings rest u) =
    λ c. elim (cases_Bool (bytes_eq a.flight.callsign c)) [
      | inl mine ↦
          none_in c (landings rest t) (same_among a.flight.callsign c (landings rest t) mine
          (not_landing a.flight.callsign rest t h.0))
          ∙ sym (none_in c (landings rest u) (same_among a.flight.callsign c (landings rest u) mine
          (not_landing a.flight.callsign rest u h.0)))
      | inr other ↦ rw other at (e c)
    ] in
    rw (head, same_seconds rest t u h.1 (omega (arith, m)) (omega (arith, n)) tails) refl

-- the landings that are shown tell the schedule
pub landings_tell : (active : List Active) (t u : Schedule) → AreNamedApart active → length t ≡ length active
    → length u ≡ length active →
    map shown_landing (in_landing_order (landings active t)) ≡ map shown_landing (in_landing_order (landings active u))
    → t ≡ u
landings_tell active t u h m n e = grind (arith, same_seconds, in_order, apart_landings)
