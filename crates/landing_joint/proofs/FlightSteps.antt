-- The events of one flight keep a situation sound: it is cancelled, revised or added.
use Rattle.std.proofs.lemmas.Grind.{common_steps}
use Rattle.std.proofs.Common.{◌≡◌, ℕ, suc, ◌<◌, ◌≤◌, inl, inr, Bool, true, false, not, List, [], ◌∷◌, ◌++◌}
use Rattle.std.proofs.Common.{length, map, filter, Option, Some, None, refl, sym, ap, subst, ◌∙◌, arith}
use Rattle.std.specs.Prelude.{◌≢◌, option_map, is_none, nat_le, if◌then◌else◌}
use Rattle.std.proofs.lemmas.Bool.{false≢true, cases_Bool, cases_lt, le-leb, lt-leb}
use Rattle.std.proofs.lemmas.Slice.Eq.{bytes_eq-Decides}
use Rattle.std.proofs.lemmas.List.Kept.{AllPairs-filter}
use Rattle.cps_base.specs.Limits.{most_flights, most_waiting}
use Rattle.landing_rules.specs.Flights.{Active, Flight, Landing, Situation, Schedule, Callsign, landing}
use Rattle.landing_rules.specs.Flights.{is_waiting, waiting}
use Rattle.landing_rules.specs.Rules.{lists}
use Rattle.landing_rules.specs.Events.{Revision, Revise, Cancel, Add, named, frozen_landings, refusal, revise, revised}
use Rattle.landing_rules.specs.Events.{newcomer, situation_after, Duplicate, TooManyFlights, TooManyWaiting}
use Rattle.landing_rules.specs.Events.{PredecessorOfFrozen, IsGoodRevision}
use Rattle.landing_rules.specs.Sound.{IsSound, IsGoodFlight, IsGoodEvent}
use Rattle.std.proofs.lemmas.List.{length_push, length-map}
use Rattle.landing_joint.specs.shared.Events.{named_waits}
use Rattle.landing_joint.specs.shared.Members.{Differ, callsigns, differ_of}
use Rattle.landing_joint.proofs.SoundAgain.{kept, sound_again, each_of, fewer_frozen}
use Rattle.landing_rules.specs.shared.Counting.{Member}
use Rattle.landing_rules.specs.shared.Members.{map_in, in_filter, filter_in, in_map, in_push, in_frozen, frozen_in}
use Rattle.landing_rules.specs.shared.Members.{none_found, none_any, fewer_filtered, fewer_twice, fewer_kept}

-- ---- cancel

pub cancelled : (s : Situation) (plan : Option Schedule) (c : Callsign) → IsSound s
    → IsSound (situation_after s plan (Cancel c))
cancelled s plan c h =
    let new = situation_after s plan (Cancel c) in
    let test : Active → Bool = λ a. not (named c a) in
    sound_again s new h refl (differ_of _ (AllPairs-filter (λ (a b : Active). a.flight.callsign ≢ b.flight.callsign)
    _ _ h.callsigns)) (omega (arith, fewer_kept test s.active, h.few_active)) (let l =
    fewer_twice is_waiting test s.active in omega (arith, h.few_waiting)) h.few_closures
    (λ a m. each_of s h a (in_filter _ _ a m).0) (fewer_frozen s new h refl refl (omega arith)
    (λ f m. let r = in_frozen _ f m in rw r.4 (frozen_in _ r.0 r.1 (in_filter _ s.active r.0 r.2).0 r.3))
    (grind (arith, in_filter, filter_in)))

-- ---- revise

good_again : (r : Revision) (f : Flight) → IsGoodRevision r → IsGoodFlight f → IsGoodFlight (revised r f)
good_again r f g h = grind arith

pub revise_callsign : (c : Callsign) (r : Revision) (a : Active) → (revise c r a).flight.callsign ≡ a.flight.callsign
revise_callsign c r a = grind arith

pub revise_frozen : (c : Callsign) (r : Revision) (a : Active) → (revise c r a).frozen ≡ a.frozen
revise_frozen c r a = elim (cases_Bool (named c a)) [ inl e ↦ rw e | inr e ↦ rw e ]

callsigns_mapped : (f : Active → Active) → ((a : Active) → (f a).flight.callsign ≡ a.flight.callsign)
    → (xs : List Active) → callsigns (map f xs) ≡ callsigns xs
callsigns_mapped f h [] = refl
callsigns_mapped f h (x ∷ xs) = search (callsigns, callsigns_mapped f h xs)

pub revised_again : (s : Situation) (plan : Option Schedule) (c : Callsign) (r : Revision) → IsSound s
    → IsGoodRevision r → refusal s (Revise c r) ≡ None → IsSound (situation_after s plan (Revise c r))
revised_again s plan c r h good ok =
    let new = situation_after s plan (Revise c r) in
    let f = revise c r in
    let wait : (a : Active) → is_waiting (f a) ≡ true → is_waiting a ≡ true =
    λ a e. ap is_none (sym (revise_frozen c r a)) ∙ e in
    sound_again s new h refl (rw (callsigns_mapped f (revise_callsign c r) _) (differ_of _ h.callsigns))
    (omega (arith, length-map s.active f, h.few_active)) (let l =
    fewer_filtered is_waiting _ f s.active wait in omega (arith, h.few_waiting)) h.few_closures
    (λ a m. let q = in_map f _ a m in rw q.2 (well q.0 (each_of s h q.0 q.1)))
    (fewer_frozen s new h refl refl (omega arith) (λ g m. let p = in_frozen _ g m in let q = in_map f _ p.0 p.2 in
    let was = sym (revise_frozen c r q.0) ∙ ap (λ (z : Active). z.frozen) (sym q.2) ∙ p.3 in
    subst (λ z. Member z (frozen_landings s)) (ap (λ z. landing z p.1) (sym (q.2 ∙ still q.0 q.1 p.1 was)) ∙ sym p.4)
    (frozen_in _ q.0 p.1 q.1 was))
    (λ a m. let p = in_filter _ _ a m in let q = in_map f _ a p.0 in (
      q.0,
      filter_in _ s.active q.0 q.1 (wait q.0 (ap is_waiting (sym q.2) ∙ p.1)),
      ap (λ (z : Active). z.flight.callsign) q.2 ∙ revise_callsign c r q.0,
    )))
  where
    well : (a : Active) → IsGoodFlight a.flight × (a.passed ≤ s.aerodrome.k)
        × (s.aerodrome.carry ≡ false → a.passed ≡ 0) → IsGoodFlight (revise c r a).flight
        × ((revise c r a).passed ≤ s.aerodrome.k) × (s.aerodrome.carry ≡ false → (revise c r a).passed ≡ 0)
    well a w = elim (cases_Bool (named c a)) [
      | inl e ↦ rw e (good_again r a.flight good w.0, w.1, w.2)
      | inr e ↦ rw e w
    ]

    still : (a : Active) → Member a s.active → (t : ℕ) → a.frozen ≡ Some t → revise c r a ≡ a
    still a m t e = grind (arith, cases_Bool, named_waits)

-- ---- add

pub add_parts : (there : Bool) (flights wait : ℕ) (found : Option Landing) (c : Callsign) →
    (if there then Some (Duplicate c) else (if nat_le most_flights flights then Some TooManyFlights
    else (if nat_le most_waiting wait then Some TooManyWaiting
    else option_map (λ (g : Landing). PredecessorOfFrozen g.flight.callsign) found))) ≡ None →
    (there ≡ false) × (flights < most_flights) × (wait < most_waiting) × (found ≡ None)
add_parts there flights wait found c e = grind (arith, cases_lt, lt-leb, le-leb)

pub waiting_push : (xs : List Active) (f : Flight)
    → length (filter is_waiting (xs ++ newcomer f ∷ [])) ≡ suc (length (filter is_waiting xs))
waiting_push xs f = grind (arith, common_steps, cases_Bool)

differ_push : (xs : List Active) (a : Active) → Differ (callsigns xs)
    → ((x : Active) → Member x xs → x.flight.callsign ≢ a.flight.callsign) → Differ (callsigns (xs ++ a ∷ []))
differ_push [] a d h = (λ c m. absurd m, tt)
differ_push (x ∷ xs) a d h = (
  λ c m. let r = in_map _ _ c m in λ e. elim (in_push xs a r.0 r.1) [
    | inl k ↦ d.0 r.0.flight.callsign (map_in _ xs r.0 k) (e ∙ r.2)
    | inr q ↦ h x (inl refl) (cc)
  ],
  differ_push xs a d.1 (λ y m. h y (inr m)),
)

pub added : (s : Situation) (plan : Option Schedule) (f : Flight) → IsSound s → IsGoodEvent (Add f)
    → refusal s (Add f) ≡ None → IsSound (situation_after s plan (Add f))
added s plan f h good ok =
    let new = situation_after s plan (Add f) in
    let p = add_parts _ _ (length (waiting s)) _ _ ok in
    let k = kept s h in
    let was : (g : Landing) → Member g (frozen_landings new) → Member g (frozen_landings s) = λ g m.
    let r = in_frozen _ g m in
    elim (in_push _ _ r.0 r.2) [
      | inl q ↦ subst (λ z. Member z (frozen_landings s)) (sym r.4) (frozen_in s.active r.0 r.1 q r.3)
      | inr e ↦ absurd (cc)
    ] in
    sound_again s new h refl (differ_push _ _ (differ_of _ h.callsigns)
    (λ x m e. let n = none_any (named f.callsign) _ x p.0 m in false≢true (sym n ∙ ((bytes_eq-Decides _ _).1 e))))
    (omega (arith, length_push s.active (newcomer f), p.1)) (grind (arith, waiting_push)) h.few_closures
    (λ a m. elim (in_push _ _ a m) [
      | inl q ↦ each_of s h a q
      | inr e ↦ rw e (good, omega arith, λ q. refl)
    ])
    (record {
      opened = λ g m. k.opened g (was g m);
      separated = λ g i m n. k.separated g i (was g m) (was i n);
      in_precedence = λ g i m n. k.in_precedence g i (was g m) (was i n);
      before = λ g m. k.before g (was g m);
      alone = λ g a m n. let r = in_filter is_waiting new.active a n in elim (in_push s.active (newcomer f) a r.0) [
        | inl q ↦ k.alone g a (was g m) (filter_in is_waiting s.active a q r.1)
        | inr e ↦ ap (λ (z : Active). lists g.flight z.flight.callsign) e
            ∙ none_found (λ g. lists g.flight f.callsign) (frozen_landings s) g p.3 (was g m)
      ];
    })
