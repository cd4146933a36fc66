-- A flight that stays in line through a run is passed by at most k flights: each kind of event keeps the counts.
use Rattle.std.proofs.lemmas.Grind.{common_steps}
use Rattle.std.proofs.Common.{◌≡◌, ℕ, ◌+◌, ◌≤◌, inl, inr, true, false, List, [], ◌∷◌, Option, Some, None, refl}
use Rattle.std.proofs.Common.{sym, ap, ap₂, subst, ◌∙◌, arith}
use Rattle.std.specs.Prelude.{All}
use Rattle.std.specs.Ordering.{is_lt}
use Rattle.std.proofs.lemmas.Bool.{cases_Bool, false≢true}
use Rattle.std.proofs.lemmas.Cmp.{tied_itself}
use Rattle.std.proofs.lemmas.List.Elements.{All-head, All-tail}
use Rattle.std.proofs.lemmas.Slice.Eq.{bytes_eq-Decides}
use Rattle.std.proofs.lemmas.Option.{same_Some}
use Rattle.landing_rules.specs.Flights.{Active, Aerodrome, Callsign, Flight, Schedule, Situation}
use Rattle.landing_rules.specs.Flights.{waiting}
use Rattle.landing_rules.specs.Rules.{arrival_cmp, IsFeasible}
use Rattle.landing_rules.specs.Events.{Event, Revision, Revise, Cancel, Add, Clock, Refusal, State, Step, Answered, Run}
use Rattle.landing_rules.specs.Events.{revise, named, refusal, situation_after}
use Rattle.landing_rules.specs.Sound.{IsSound, IsSoundState, IsGoodEvent}
use Rattle.landing_rules.specs.shared.Counting.{cases, Member}
use Rattle.landing_rules.specs.shared.Ranks.{arrival_total, level-callsign}
use Rattle.landing_joint.specs.PassedOver.{waiting_flight, waits_in, is_ahead, StaysInLine, StaysInLineThrough}
use Rattle.landing_joint.specs.PassedOver.{ArePassedAtLeast, passing_by_event, passing_flight, passing_in_step}
use Rattle.landing_joint.specs.PassedOver.{passing_in_run, StepCountsLaw, FewPassLaw, FewPassLaterLaw, IsFirstInLine}
use Rattle.landing_joint.specs.PassedOver.{FewPassFirstLaw, FewPassAnyoneLaw}
use Rattle.landing_joint.specs.shared.Events.{aerodrome_stays, named_is}
use Rattle.landing_joint.specs.shared.Members.{differ_of, one_of_name}
use Rattle.landing_joint.proofs.FlightSteps.{revise_callsign, revise_frozen}
use Rattle.landing_joint.proofs.StepLaws.{event_keeps_sound, step_keeps_sound}
use Rattle.landing_joint.proofs.PassedOver.{found, is_found, some_flight, clock_counts, clock_counts_exactly}
use Rattle.landing_rules.specs.shared.Members.{in_filter, filter_in, in_map, in_push, none_any, all_at, all_from}

-- ---- first-come order

not_lt_itself : (f : Flight) → is_lt (arrival_cmp f f) ≡ false
not_lt_itself f = ap is_lt (tied_itself arrival_total f)

one_way : (f g : Flight) → is_lt (arrival_cmp f g) ≡ true → is_lt (arrival_cmp g f) ≡ false
one_way f g e = grind (arith, arrival_total, false≢true)

-- who has another name and does not stand behind stands ahead
ahead_of : (f g : Flight) → (f.callsign ≡ g.callsign → ⊥) → is_lt (arrival_cmp f g) ≡ false
    → is_lt (arrival_cmp g f) ≡ true
ahead_of f g ne e = grind (arith, cases, false≢true, level-callsign, arrival_total)

ahead_parts : (o p : Option Active) → is_ahead o p ≡ true → (g : Active) × (f : Active) × (o ≡ Some g)
    × (p ≡ Some f) × (is_lt (arrival_cmp g.flight f.flight) ≡ true)
ahead_parts o p e = grind (arith, false≢true)

-- ---- events that freeze nobody

-- who waits afterwards under a name that waited before has the same count
abbrev SameCounts : Situation → Situation → Type 0
SameCounts old new = (x a : Active) → Member x (waiting new) → Member a (waiting old)
    → a.flight.callsign ≡ x.flight.callsign → x.passed ≡ a.passed

module _ (old new : Situation) (sound : IsSound new) (c : Callsign) (g : ℕ) (same : SameCounts old new)
    (here : waits_in old c ≡ true) (line : StaysInLine c old new) (least : ArePassedAtLeast g old c) where
  at_old : (f x : Active) → waiting_flight old c ≡ Some f → Member x (waiting old)
      → is_lt (arrival_cmp f.flight x.flight) ≡ false → g ≤ x.passed
  at_old f x e m q = all_at (λ (x : Active). is_lt (arrival_cmp f.flight x.flight) ≡ false
      → g ≤ x.passed) _ (least f e) x m q

  least_itself : (x : Active) → Member x (waiting new) → x.flight.callsign ≡ c → g ≤ x.passed
  least_itself x m e =
      let b = some_flight old c here in
      let mb = found old c b.0 b.1 in
      let l = at_old b.0 b.0 b.1 mb.0 (not_lt_itself b.0.flight) in
      let p = same x b.0 m mb.0 (mb.1 ∙ sym e) in
      omega arith

  least_ahead : (f x : Active) → waiting_flight new c ≡ Some f → Member x (waiting new)
      → is_lt (arrival_cmp x.flight f.flight) ≡ true → g ≤ x.passed
  least_ahead f x e m q =
      let d = x.flight.callsign in
      let was = ahead_parts _ _ (line.nobody_new d (ap₂ is_ahead (is_found new sound d x m refl) e ∙ q)) in
      let a = was.0 in
      let ma = found old d a was.2 in
      let l = at_old _ a was.3 ma.0 (one_way a.flight was.1.flight was.4) in
      let p = same x a m ma.0 ma.1 in
      omega arith

  quiet : ArePassedAtLeast g new c
  quiet f e = all_from (λ (x : Active). is_lt (arrival_cmp f.flight x.flight) ≡ false
      → g ≤ x.passed) _ (λ x m q. elim (cases_Bool _) [
        | inl b ↦ least_itself x m (named_is c x b)
        | inr b ↦ least_ahead f x e m (ahead_of f.flight x.flight (λ s.
            false≢true (sym b ∙ (bytes_eq-Decides _ c).1 (sym s ∙ (found new c f e).1))) q)
      ])

-- of one name one waits
one_waits : (s : Situation) → IsSound s → (a b : Active) → Member a (waiting s) → Member b (waiting s)
    → a.flight.callsign ≡ b.flight.callsign → a ≡ b
one_waits s sound a b m n e = one_of_name _ a b (differ_of _ sound.callsigns)
    (in_filter _ _ a m).0 (in_filter _ _ b n).0 e

same_active : (old new : Situation) → IsSound old → new.active ≡ old.active → SameCounts old new
same_active old new sound e x a m n s = ap (λ (z : Active). z.passed) (one_waits old sound x a (rw e at m) n (sym s))

same_cancelled : (s : Situation) (plan : Option Schedule) (c : Callsign) → IsSound s
    → SameCounts s (situation_after s plan (Cancel c))
same_cancelled s plan c sound x a m n e =
    let w = in_filter _ _ x m in
    ap (λ (z : Active). z.passed) (one_waits s sound x a (filter_in _ s.active x (in_filter _ _ x w.0).0 w.1) n (sym e))

revise_passed : (c : Callsign) (r : Revision) (a : Active) → (revise c r a).passed ≡ a.passed
revise_passed c r a = elim (cases_Bool (named c a)) [ inl e ↦ rw e | inr e ↦ rw e ]

same_revised : (s : Situation) (plan : Option Schedule) (c : Callsign) (r : Revision) → IsSound s
    → SameCounts s (situation_after s plan (Revise c r))
same_revised s plan c r sound x a m n e =
    grind (arith, in_filter, in_map, revise_frozen, revise_callsign, revise_passed, one_waits, filter_in)

same_added : (s : Situation) (plan : Option Schedule) (f : Flight) → IsSound s → refusal s (Add f) ≡ None
    → SameCounts s (situation_after s plan (Add f))
same_added s plan f sound ok x a m n e =
    grind (arith, common_steps, in_filter, in_push, one_waits, filter_in, false≢true, none_any, bytes_eq-Decides)

-- ---- an accepted event

-- so many passed the flight named c so far, at most k, and each that does not stand behind it counts them
abbrev Counted : ℕ → Callsign → Situation → ℕ → Type 0
Counted k c s g = (g ≤ k) × ArePassedAtLeast g s c

-- where nobody passes
none_more : (k : ℕ) (c : Callsign) (s : Situation) (g n : ℕ) → n ≡ 0 → Counted k c s g → Counted k c s (g + n)
none_more k c s g n e h = rw (let z : g ≡ g + n = omega arith in z) at h

none_pass : (old : State) (e : Event) → ((f : Flight) → passing_by_event old e f ≡ 0) → (o : Option Active)
    → passing_flight old e o ≡ 0
none_pass old e h o = grind arith

abbrev state_of : Situation → Option Schedule → State
state_of s plan = record { situation = s; plan = plan }

-- an accepted event keeps the counts, and nobody passes by it; or it is the clock's, and a plan is shown
by_kind : (s : Situation) (P : Option Schedule → Event → Type 0) → IsSound s
    → ((plan : Option Schedule) (e : Event) → SameCounts s (situation_after s plan e)
    → ((f : Flight) → passing_by_event (state_of s plan) e f ≡ 0) → P plan e) →
    ((t : Schedule) (now : ℕ) → P (Some t) (Clock now))
    → (plan : Option Schedule) (e : Event) → refusal s e ≡ None → P plan e
by_kind s P sound still clock plan (Revise d r) ok = search same_revised
by_kind s P sound still clock plan (Cancel d) ok = still plan (Cancel d) (same_cancelled s plan d sound) (λ f. refl)
by_kind s P sound still clock plan (Add x) ok = still plan (Add x) (same_added s plan x sound ok) (λ f. refl)
by_kind s P sound still clock (Some t) (Clock now) ok = clock t now
by_kind s P sound still clock plan e ok = still plan e (same_active s (situation_after s plan e) sound refl) (λ f. refl)

event_counted : (s : Situation) (plan : Option Schedule) (c : Callsign) (g : ℕ) (e : Event)
    → IsSound s → ((t : Schedule) → plan ≡ Some t → IsFeasible s t) → s.aerodrome.carry ≡ true
    → waits_in s c ≡ true → Counted s.aerodrome.k c s g →
    IsGoodEvent e → refusal s e ≡ None → StaysInLine c s (situation_after s plan e)
    → Counted s.aerodrome.k c (situation_after s plan e) (g + passing_in_step (state_of s plan) e None c)
event_counted s plan c g e sound feasible carry here so_far good ok line =
    by_kind s Goal sound (search (arith, none_more, none_pass, quiet, event_keeps_sound))
    (λ t now feasible good ok line.
    let f = some_flight s c here in
    let r = clock_counts s t now c f.0 g sound carry (feasible t refl) ok f.1 line.waits so_far.1 in
    rw f.1 (r.few, r.counted)) plan e ok feasible good ok line
  where
    Goal : Option Schedule → Event → Type 0
    Goal plan e = ((t : Schedule) → plan ≡ Some t → IsFeasible s t) → IsGoodEvent e → refusal s e ≡ None
        → StaysInLine c s (situation_after s plan e)
        → Counted s.aerodrome.k c (situation_after s plan e) (g + passing_in_step (state_of s plan) e None c)

-- ---- a step, and a run

step_aerodrome : (old new : State) (e : Event) (answer : Option Refusal) → Step old e answer new
    → new.situation.aerodrome ≡ old.situation.aerodrome
step_aerodrome old new e answer step = grind (arith, aerodrome_stays)

step_counted : (old new : State) (e : Event) (answer : Option Refusal) (c : Callsign) (g : ℕ)
    → IsSoundState old → IsGoodEvent e → Step old e answer new → old.situation.aerodrome.carry ≡ true
    → waits_in old.situation c ≡ true → StaysInLine c old.situation new.situation →
    Counted old.situation.aerodrome.k c old.situation g
    → Counted old.situation.aerodrome.k c new.situation (g + passing_in_step old e answer c)
step_counted old new e (Some r) c g sound good step carry here line so_far = grind (arith, none_more)
step_counted old new e None c g sound good step carry here line so_far =
    let is = step.effect.changed in
    rw is (event_counted _ _ c g e sound.situation (λ t q. (rw q at sound.shown).0.feasible) carry here so_far good
    (cc) (rw is at line))

run_counted : (old : State) (events : List Event) (answers : List Answered) (c : Callsign) (g : ℕ)
    → IsSoundState old → old.situation.aerodrome.carry ≡ true → All IsGoodEvent events → Run old events answers
    → waits_in old.situation c ≡ true → StaysInLineThrough c old answers →
    Counted old.situation.aerodrome.k c old.situation g
    → g + passing_in_run old events answers c ≤ old.situation.aerodrome.k
run_counted old (e ∷ events) (a ∷ answers) c g sound carry good run here line so_far =
    let next = step_keeps_sound old a.state e a.answer sound (All-head IsGoodEvent e _ good) run.0 in
    let same = step_aerodrome old _ e _ run.0 in
    let d = passing_in_step old e a.answer c in
    let now = step_counted old _ e _ c g sound (All-head IsGoodEvent e _ good) run.0 carry here line.0 so_far in
    let now' = subst (λ (x : Aerodrome). Counted x.k c a.state.situation (g + d)) (sym same) now in
    let rest = run_counted _ events _ c (g + d) next (cc)
    (All-tail IsGoodEvent e _ good) run.1 line.0.waits line.1 now' in grind arith
run_counted old events answers c g sound carry good run here line so_far = grind arith

-- a count that each has is no more than k
least_low : (s : Situation) → IsSound s → (c : Callsign) (g : ℕ) → waits_in s c ≡ true → ArePassedAtLeast g s c
    → g ≤ s.aerodrome.k
least_low s sound c g here least =
    let f = some_flight s c here in
    let m = found s c f.0 f.1 in
    let own = all_at (λ (x : Active). is_lt (arrival_cmp f.0.flight x.flight) ≡ false
    → g ≤ x.passed) _ (least f.0 f.1) f.0 m.0 (not_lt_itself f.0.flight) in
    let most = all_at (λ (x : Active). x.passed ≤ s.aerodrome.k) _ sound.passed f.0 (in_filter _ _ f.0 m.0).0 in
    omega arith

pub step_counts : StepCountsLaw
step_counts old new e answer c g sound carry good step here line least =
    let r = step_counted old new e _ c g sound good step carry here line
    (least_low _ sound.situation c g here least, least) in
    record { few = r.0; counted = r.1 }

pub few_pass_later : FewPassLaterLaw
few_pass_later old events answers c g sound carry good run here line least = search (run_counted, least_low)

pub few_pass : FewPassLaw
few_pass old events answers c sound carry good run here line =
    let none : ArePassedAtLeast 0 old.situation c = omega arith in
    omega (arith, few_pass_later old events answers c 0 sound carry good run here line none)

-- ---- the first in line

stays_in_line : (c : Callsign) (old : State) (answers : List Answered)
    → All (λ a. IsFirstInLine c a.state.situation) answers → StaysInLineThrough c old answers
stays_in_line c old [] h = tt
stays_in_line c old (a ∷ answers) h =
    let first = All-head (λ (a : Answered). IsFirstInLine c a.state.situation) a _ h in (
      record { waits = first.waits; nobody_new = λ d e. absurd (false≢true (sym (first.nobody d) ∙ e)) },
      stays_in_line c _ answers (All-tail (λ (a : Answered). IsFirstInLine c a.state.situation) a _ h),
    )

-- nobody else does not stand behind it
alone_ahead : (s : Situation) → IsSound s → (c : Callsign) (f x : Active) → waiting_flight s c ≡ Some f
    → IsFirstInLine c s → Member x (waiting s) → is_lt (arrival_cmp f.flight x.flight) ≡ false → f ≡ x
alone_ahead s sound c f x e first m q = elim (cases_Bool _) [
  | inl b ↦ one_waits s sound f x mf.0 m (mf.1 ∙ sym (named_is c x b))
  | inr b ↦
      let d = x.flight.callsign in
      let other = λ (z : f.flight.callsign ≡ d). false≢true (sym b ∙ (bytes_eq-Decides d c).1 (sym z ∙ mf.1)) in
      let ahead = ap₂ is_ahead (is_found s sound d x m refl) e ∙ ahead_of f.flight x.flight other q in
      absurd (false≢true (sym (first.nobody d) ∙ ahead))
]
  where
    mf : Member f (waiting s) × (f.flight.callsign ≡ c)
    mf = found s c f e

pub few_pass_first : FewPassFirstLaw
few_pass_first old events answers c f sound carry good run here first rest =
    let s = old.situation in
    let least : ArePassedAtLeast f.passed s c =
    λ b e. all_from (λ (x : Active). is_lt (arrival_cmp b.flight x.flight) ≡ false → f.passed ≤ x.passed) _ (λ x m q.
    omega (
      arith,
      ap (λ (z : Active). z.passed) (same_Some f b (sym here ∙ e) ∙ alone_ahead s sound.situation c b x e first m q),
    )) in
    few_pass_later old events answers c f.passed sound carry good run first.waits (stays_in_line c old _ rest) least

-- ---- where k is at most 1

-- the count of a flight that waits before and after tells those that pass it
abbrev CountsExactly : State → Event → Option Refusal → State → Callsign → Type 0
CountsExactly old e answer new c = (f g : Active) → waiting_flight old.situation c ≡ Some f
    → waiting_flight new.situation c ≡ Some g → g.passed ≡ f.passed + passing_in_step old e answer c

event_exactly : (s : Situation) (plan : Option Schedule) (e : Event) (c : Callsign) → IsSound s
    → ((t : Schedule) → plan ≡ Some t → IsFeasible s t) → s.aerodrome.carry ≡ true → s.aerodrome.k ≤ 1
    → refusal s e ≡ None →
    CountsExactly (state_of s plan) e None (state_of (situation_after s plan e) plan) c
event_exactly s plan e c sound feasible carry low ok =
    by_kind s Goal sound (λ plan e same none feasible ok f g here later.
    let mf = found s c f here in
    let mg = found (situation_after s plan e) c g later in
    let p = same g f mg.0 mf.0 (mf.1 ∙ sym mg.1) in
    let z = none_pass (state_of s plan) e none (waiting_flight s c) in
    omega arith) (grind (arith, clock_counts_exactly)) _ e ok feasible ok
  where
    Goal : Option Schedule → Event → Type 0
    Goal plan e = ((t : Schedule) → plan ≡ Some t → IsFeasible s t) → refusal s e ≡ None
        → CountsExactly (state_of s plan) e None (state_of (situation_after s plan e) plan) c

step_exactly : (old new : State) (e : Event) (answer : Option Refusal) (c : Callsign) → IsSoundState old
    → Step old e answer new → old.situation.aerodrome.carry ≡ true → old.situation.aerodrome.k ≤ 1
    → CountsExactly old e answer new c
step_exactly old new e answer c sound step carry low f g here later = grind (arith, same_Some, event_exactly)

pub few_pass_anyone : FewPassAnyoneLaw
few_pass_anyone old [] answers c f sound carry low good run here waited =
    let s = old.situation in
    let most = all_at (λ (x : Active). x.passed ≤ s.aerodrome.k) _ sound.situation.passed f
    (in_filter _ _ f (found s c f here).0).0 in
    omega arith
few_pass_anyone old (e ∷ events) [] c f sound carry low good run here waited = absurd run
few_pass_anyone old (e ∷ events) (a ∷ answers) c f sound carry low good run here waited =
    let next = step_keeps_sound old a.state e a.answer sound (All-head IsGoodEvent e _ good) run.0 in
    let same = step_aerodrome old _ e _ run.0 in
    let waits = λ (a : Answered). waits_in a.state.situation c ≡ true in
    let g = some_flight a.state.situation c (All-head waits a _ waited) in
    let now = step_exactly old a.state e a.answer c sound run.0 carry low f g.0 here g.1 in
    let k = ap (λ (x : Aerodrome). x.k) same in
    let rest = few_pass_anyone a.state events answers c g.0 next (cc)
    (omega arith) (All-tail IsGoodEvent e _ good) run.1 g.1 (All-tail waits a _ waited) in
    omega arith
