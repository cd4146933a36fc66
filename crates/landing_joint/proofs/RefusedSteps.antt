-- What the refusals are for: after an event that each of them turns away, the situation is not sound, whatever it was
-- before.
use Rattle.std.proofs.Common.{◌≡◌, ℕ, ◌+◌, ◌≤◌, Bool, true, false, not, ◌||◌, List, [], ◌∷◌, ◌++◌, length, Option, None}
use Rattle.std.proofs.Common.{refl, sym, ap, subst, ◌∙◌, arith}
use Rattle.std.specs.List.{list_any}
use Rattle.std.proofs.lemmas.Bool.{false≢true, and_parts, or_right}
use Rattle.cps_base.specs.Limits.{most_closures, most_flights, most_waiting}
use Rattle.landing_rules.specs.Flights.{Flight, Landing, Situation, Schedule, Span, waiting}
use Rattle.landing_rules.specs.Rules.{is_within, is_shut, lists}
use Rattle.landing_rules.specs.Events.{Add, Close, Clock, frozen_landings, newcomer, situation_after}
use Rattle.landing_rules.specs.Sound.{IsSound}
use Rattle.std.proofs.lemmas.List.{length_push}
use Rattle.landing_joint.proofs.SoundAgain.{kept}
use Rattle.landing_joint.proofs.FlightSteps.{waiting_push}
use Rattle.landing_rules.specs.shared.Counting.{Member}
use Rattle.std.proofs.lemmas.List.Folds.{list_any-append}
use Rattle.landing_rules.specs.shared.Members.{append_in, pushed_in, filter_in, in_frozen, frozen_in}

any_last : (p : Span → Bool) (cs : List Span) (c : Span) → p c ≡ true → list_any p (cs ++ c ∷ []) ≡ true
any_last p cs c e = list_any-append p cs _ ∙ or_right _ (p c || false) (rw e)

-- a flight, a flight that waits, a closure more than there may be
flight_too_many : (s : Situation) (plan : Option Schedule) (f : Flight) → most_flights ≤ length s.active
    → IsSound (situation_after s plan (Add f)) → ⊥
flight_too_many s plan f many h = absurd (omega (arith, length_push s.active (newcomer f)))

waiting_too_many : (s : Situation) (plan : Option Schedule) (f : Flight) → most_waiting ≤ length (waiting s)
    → IsSound (situation_after s plan (Add f)) → ⊥
waiting_too_many s plan f many h = absurd (omega (arith, waiting_push s.active f))

closure_too_many : (s : Situation) (plan : Option Schedule) (span : Span) → most_closures ≤ length s.closures
    → IsSound (situation_after s plan (Close span)) → ⊥
closure_too_many s plan span many h = absurd (omega (arith, length_push s.closures span))

-- a closure over the second of a frozen flight
covered_landing : (s : Situation) (plan : Option Schedule) (span : Span) (g : Landing) → Member g (frozen_landings s)
    → is_shut g.second span ≡ true → IsSound (situation_after s plan (Close span)) → ⊥
covered_landing s plan span g m shut h =
    let new = situation_after s plan (Close _) in
    let free = (and_parts (list_any (is_within g.second) g.flight.windows)
    (not (list_any (is_shut g.second) new.closures)) ((kept new h).opened g m)).1 in
    false≢true (sym (ap not (any_last _ s.closures _ shut)) ∙ free)

-- a flight that a frozen one lists
predecessor_of_frozen : (s : Situation) (plan : Option Schedule) (f : Flight) (g : Landing)
    → Member g (frozen_landings s) → lists g.flight f.callsign ≡ true → IsSound (situation_after s plan (Add f)) → ⊥
predecessor_of_frozen s plan f g m listed h =
    let new = situation_after s plan (Add f) in
    let r = in_frozen _ g m in
    let there = subst (λ z. Member z (frozen_landings new))
    (sym r.4) (frozen_in _ r.0 r.1 (append_in s.active _ r.0 r.2) r.3) in
    false≢true (sym ((kept new h).alone g (newcomer f) there (filter_in _ _ _ (pushed_in s.active _ _ refl) refl)) ∙
    listed)

-- a clock so far back that a frozen flight would land at its horizon or later
clock_far_back : (s : Situation) (now : ℕ) (g : Landing) → Member g (frozen_landings s)
    → now + s.aerodrome.freeze ≤ g.second → IsSound (situation_after s None (Clock now)) → ⊥
clock_far_back s now g m le h = absurd (omega (arith, (kept _ h).before g m))
