-- Each event that is accepted keeps a situation sound, so each step and each run keeps a state sound: first the events
-- of a closure, which is closed or reopened, then all kinds together.
use Rattle.std.proofs.Common.{◌≡◌, ℕ, ◌<◌, ◌≤◌, Bool, true, false, not, List, [], ◌∷◌, ◌++◌, length, filter}
use Rattle.std.proofs.Common.{Option, Some, None, refl, ap, subst, ◌∙◌, arith}
use Rattle.std.specs.Prelude.{option_map, is_some, nat_le, if◌then◌else◌}
use Rattle.std.specs.List.{list_any}
use Rattle.std.proofs.lemmas.Bool.{cases_Bool, cases_lt, le-leb, or_parts, and_parts, not-true}
use Rattle.cps_base.specs.Limits.{most_closures}
use Rattle.landing_rules.specs.Flights.{Landing, Situation, Schedule, Span, is_waiting, horizon}
use Rattle.landing_rules.specs.Rules.{is_open, is_shut}
use Rattle.landing_rules.specs.Events.{Close, Reopen, frozen_landings, refusal, without_first, same_span}
use Rattle.landing_rules.specs.Events.{situation_after, CoversFrozen, TooManyClosures, Revise, Cancel, Add}
use Rattle.landing_rules.specs.Events.{Answered, IsPlanShown}
use Rattle.landing_rules.specs.Sound.{IsSound, IsSoundState, IsGoodEvent}
use Rattle.std.proofs.lemmas.List.{length_push}
use Rattle.landing_joint.specs.shared.Members.{differ_of}
use Rattle.landing_joint.proofs.SoundAgain.{kept, sound_again, each_of}
use Rattle.landing_rules.specs.shared.Counting.{Member}
use Rattle.landing_joint.specs.shared.LandingsInOrder.{member_order}
use Rattle.std.proofs.lemmas.List.Folds.{list_any-append}
use Rattle.landing_rules.specs.shared.Members.{none_found}
use Rattle.std.proofs.lemmas.List.Elements.{All-cons, All-head, All-tail}
use Rattle.landing_joint.specs.StepLaws.{EventKeepsSoundLaw, StepKeepsSoundLaw, RunKeepsSoundLaw}
use Rattle.landing_joint.proofs.Clock.{clock_keeps_sound}
use Rattle.landing_joint.proofs.FlightSteps.{cancelled, revised_again, added}

-- ---- reopen

fewer_shut : (span : Span) (cs : List Span) (t : ℕ) → list_any (is_shut t) cs ≡ false
    → list_any (is_shut t) (without_first (same_span span) cs) ≡ false
fewer_shut span [] t e = e
fewer_shut span (c ∷ cs) t e = grind (arith, or_parts, cases_Bool, fewer_shut span cs)

fewer_closed : (span : Span) (cs : List Span) → length (without_first (same_span span) cs) ≤ length cs
fewer_closed span [] = omega arith
fewer_closed span (c ∷ cs) = grind (arith, cases_Bool, fewer_closed span cs)

open_where : (windows cs ds : List Span) (t : ℕ) → (list_any (is_shut t) cs ≡ false → list_any (is_shut t) ds ≡ false)
    → is_open windows cs t ≡ true → is_open windows ds t ≡ true
open_where windows cs ds t h e = grind (arith, and_parts, not, not-true)

other_closures : (s new : Situation) → IsSound s → new.aerodrome ≡ s.aerodrome → new.active ≡ s.active
    → new.clock ≡ s.clock → length new.closures ≤ most_closures →
    ((f : Landing) → Member f (frozen_landings s) → is_open f.flight.windows new.closures f.second ≡ true) → IsSound new
other_closures s new h same actives clocks few opened =
    let k = kept s h in
    let back : (f : Landing) → Member f (frozen_landings new) → Member f (frozen_landings s) = λ f m. rw actives at m in
    sound_again s new h same (rw actives (differ_of _ h.callsigns))
    (omega (arith, ap length actives, h.few_active)) (let l =
    ap (λ l. length (filter is_waiting l)) actives in omega (arith, h.few_waiting)) few
    (λ a m. each_of s h a (rw actives at m))
    (record {
      opened = λ f m. opened f (back f m);
      separated = grind arith;
      in_precedence = λ f g m n. k.in_precedence f g (back f m) (back g n);
      before = λ f m. let b = k.before f (back f m) in let e : horizon new ≡ horizon s = search in omega arith;
      alone = λ f a m n. k.alone f a (back f m) (subst (λ l. Member a (filter is_waiting l)) actives n);
    })

reopened : (s : Situation) (plan : Option Schedule) (span : Span) → IsSound s
    → IsSound (situation_after s plan (Reopen span))
reopened s plan span h = grind (arith, other_closures, fewer_closed, open_where, fewer_shut, kept)

-- ---- close

any_push : (p : Span → Bool) (cs : List Span) (c : Span) → list_any p cs ≡ false → p c ≡ false
    → list_any p (cs ++ c ∷ []) ≡ false
any_push p cs c e n = list_any-append p cs _ ∙ rw (e, n)

close_parts : (found : Option Landing) (n : ℕ)
    → (if is_some found then option_map (λ (g : Landing). CoversFrozen g.flight.callsign g.second) found
    else (if nat_le most_closures n then Some TooManyClosures else None)) ≡ None → (found ≡ None) × (n < most_closures)
close_parts found n e = grind (arith, cases_lt, le-leb)

closed : (s : Situation) (plan : Option Schedule) (span : Span) → IsSound s → refusal s (Close span) ≡ None
    → IsSound (situation_after s plan (Close span))
closed s plan span h ok =
    let p = close_parts _ _ ok in
    other_closures s _ h refl refl refl (omega (arith, length_push s.closures span, p.1))
    (λ f m. open_where _ _ _ f.second (λ e. any_push _ s.closures _ e (none_found (λ g. is_shut g.second span) _ f p.0
    (member_order f _ m))) ((kept s h).opened f m))

-- ---- all kinds

pub event_keeps_sound : EventKeepsSoundLaw
event_keeps_sound s plan (Revise c r) sound good feasible ok = revised_again s plan c r sound good ok
event_keeps_sound s plan (Cancel c) sound good feasible ok = cancelled s plan c sound
event_keeps_sound s plan (Add f) sound good feasible ok = added s plan f sound good ok
event_keeps_sound s plan (Close span) sound good feasible ok = closed s plan _ sound ok
event_keeps_sound s plan x sound good feasible ok = search (reopened, clock_keeps_sound)

pub step_keeps_sound : StepKeepsSoundLaw
step_keeps_sound old new e None sound good step = record {
  situation = subst IsSound (cc) (event_keeps_sound old.situation old.plan e sound.situation good
      (λ t q. (subst (IsPlanShown old.situation) q sound.shown).0.feasible) (cc));
  shown = step.effect.shown;
}
step_keeps_sound old new e (Some r) sound good step = rw step.effect sound

pub run_keeps_sound : RunKeepsSoundLaw
run_keeps_sound old (e ∷ events) (a ∷ answers) sound good run =
    let next = step_keeps_sound old a.state e a.answer sound (All-head IsGoodEvent e _ good) run.0 in
    All-cons (λ (b : Answered). IsSoundState b.state) a _ next
    (run_keeps_sound a.state events answers next (All-tail IsGoodEvent e _ good) run.1)
run_keeps_sound old x h sound good run = grind arith
