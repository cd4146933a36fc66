-- What is asked of each kind of event: the callsigns that the events of a log name are short, and so is the cause of
-- each refusal.
use Rattle.std.proofs.Common.{◌≡◌, ℕ, ◌≤◌, inl, inr, List, [], ◌∷◌, length, map, Bool, cond}
use Rattle.std.proofs.Common.{Result, Ok, Err, subst, Option, Some, None, arith}
use Rattle.std.proofs.lemmas.Grind.{common_steps}
use Rattle.std.specs.Prelude.{All, codes, bytes_eq, nat_le, IsTrue, find, option_map, nat_lt, IfOk}
use Rattle.std.proofs.lemmas.Bool.{cases_Bool}
use Rattle.std.proofs.lemmas.List.Elements.{All-nil, All-map}
use Rattle.cps_base.specs.Answers.{◌>>=◌, ok_map}
use Rattle.cps_base.specs.Limits.{most_closures, most_flights, most_waiting}
use Rattle.arrivals.specs.declared.event.Event as log
use Rattle.arrivals.specs.declared.event.Event.TheVariants as logged
use Rattle.arrivals.specs.Seen.{event_of}
use Rattle.csv_records.specs.Rows.{Fields}
use Rattle.csv_records.specs.Values.{added, value_in, values_in, values_by}
use Rattle.flight_file.specs.Fields.{flight_at}
use Rattle.event_log.specs.declared.fault.LogCause.{LogCause}
use Rattle.event_log.specs.Kinds.{add_in, cancel_in, clock_in, closed_in, estimate_in, event_by}
use Rattle.event_log.specs.Reading.{events, events_of}
use Rattle.text_bounds.specs.Replays.{HasShortName, IsInDays}
use Rattle.text_bounds.specs.shared.Lengths.{callsign_short, second_short}
use Rattle.std.specs.List.{list_any}
use Rattle.std.proofs.lemmas.List.{length-append}
use Rattle.landing_rules.specs.Flights.{Active, Flight, Landing, Situation, Span, landing, waiting}
use Rattle.landing_rules.specs.Rules.{is_open, is_shut, last_second, lists}
use Rattle.landing_rules.specs.Events.{Add, Cancel, Clock, ClockBack, Close, CoversFrozen, Duplicate, Event, Frozen}
use Rattle.landing_rules.specs.Events.{PredecessorOfFrozen, Refusal, Reopen, Revise, TooManyClosures, TooManyFlights}
use Rattle.landing_rules.specs.Events.{TooManyWaiting, UnknownClosure, UnknownFlight, clock_back, frozen_landings}
use Rattle.landing_rules.specs.Events.{in_landing_order, named, refusal, same_span, unknown_or_frozen}
use Rattle.landing_rules.specs.Sound.{IsGoodEvent, IsGoodFlight, IsSound}
use Rattle.landing_rules.specs.Text.{cause}
use Rattle.landing_rules.specs.shared.Counting.{Member}
use Rattle.landing_rules.specs.shared.Members.{all_at, cases_option, found_in, frozen_in, in_frozen}
use Rattle.landing_joint.specs.shared.LandingsInOrder.{order_member}
use Rattle.landing_joint.specs.shared.OpenDays.{open_in_days}
use Rattle.std.proofs.lemmas.Result.{IfOk-at_ok}

-- ---- the events that a log holds name callsigns

abbrev IsNamed : log.Event → Type 0
IsNamed e = HasShortName (event_of e)

then_ok : {A B E : Type 0} (Q : A → Type 0) (P : B → Type 0) (x : Result A E) (f : A → Result B E) → IfOk x Q
    → ((a : A) → Q a → IfOk (f a) P) → IfOk (x >>= f) P
then_ok Q P x f q h = grind arith

by_cond : {A E : Type 0} (P : A → Type 0) (b : Bool) (x y : Result A E) → IfOk x P → IfOk y P → IfOk (cond b x y) P
by_cond P b x y p q = grind arith

estimate_named : (r : Fields) → IfOk (estimate_in r) IsNamed
unfolding estimate_in
estimate_named r = grind arith

cancel_named : (r : Fields) → IfOk (cancel_in r) IsNamed
unfolding cancel_in
cancel_named r = grind arith

add_named : (r : Fields) → IfOk (add_in r) IsNamed
unfolding add_in flight_at
add_named r = grind arith

span_named : (make : ℕ → ℕ → log.Event) → ((from to : ℕ) → IsNamed (make from to)) → (r : Fields)
    → IfOk (ok_map (λ span. make span.0 span.1) (closed_in r)) IsNamed
span_named make named r = go (closed_in r)
  where
    go : (x : Result (ℕ × ℕ) LogCause) → IfOk (ok_map (λ span. make span.0 span.1) x) IsNamed
    go (Ok span) = named span.0 span.1
    go (Err e) = tt

clock_named : (r : Fields) → IfOk (clock_in r) IsNamed
unfolding clock_in
clock_named r = grind arith

kind_named : (kind : List ℕ) (r : Fields) → IfOk (event_by kind r) IsNamed
unfolding event_by
kind_named kind r =
    by_cond _ (bytes_eq kind (codes "estimate")) _ _ (estimate_named r)
    (by_cond _ (bytes_eq kind (codes "cancel")) _ _ (cancel_named r)
    (by_cond _ (bytes_eq kind (codes "add")) _ _ (add_named r)
    (by_cond _ (bytes_eq kind (codes "close")) _ _ (span_named logged.Close (λ from to. tt) r)
    (by_cond _ (bytes_eq kind (codes "reopen")) _ _ (span_named logged.Reopen (λ from to. tt) r)
    (by_cond _ (bytes_eq kind (codes "clock")) _ _ (clock_named r) tt)))))

record_named : (before : List log.Event) (r : Fields) → IfOk (value_in events before r) IsNamed
record_named before r = grind (arith, by_cond, then_ok, kind_named)

added_named : (before : List log.Event) (x : Result log.Event LogCause) → All IsNamed before → IfOk x IsNamed
    → IfOk (added events before x) (All IsNamed)
added_named before x all named = grind (arith, common_steps)

rows_named : (before : List log.Event) (rs : List Fields) → All IsNamed before
    → IfOk (values_in events before rs) (All IsNamed)
unfolding values_in
rows_named before [] all = all
rows_named before (r ∷ rs) all = then_ok _ _ _ _ (added_named _ _ all (record_named _ r))
    (λ events named. rows_named events rs named)

all_named : (rs : List Fields) → IfOk (values_by events rs) (All IsNamed)
unfolding values_by
all_named rs = grind (arith, by_cond, rows_named, All-nil)

pub log_named : (bytes : List ℕ) (es : List log.Event) → events_of bytes ≡ Ok es → All HasShortName (map event_of es)
log_named bytes es is = All-map HasShortName _ es (IfOk-at_ok _ is (all_named _))

-- ---- how long the cause of a refusal is

-- its callsign is short and its second one of the two days
abbrev IsShort : Refusal → Type 0
IsShort (UnknownFlight c) = length c ≤ 8
IsShort (Frozen t) = t ≤ last_second
IsShort (Duplicate c) = length c ≤ 8
IsShort (PredecessorOfFrozen c) = length c ≤ 8
IsShort (CoversFrozen c t) = (length c ≤ 8) × (t ≤ last_second)
IsShort (ClockBack t) = t ≤ last_second
IsShort r = Unit {0}

cause_short : (r : Refusal) → IsShort r → length (cause r) ≤ 30
cause_short r h = grind (arith, second_short, length-append)

module _ (s : Situation) (sound : IsSound s) where
  pub active_name : (a : Active) → Member a s.active → length a.flight.callsign ≤ 8
  active_name a m = callsign_short _ (all_at (λ (b : Active). IsGoodFlight b.flight) _ sound.flights a m).callsign

  -- a frozen flight's second is open
  pub frozen_second : (a : Active) (t : ℕ) → Member a s.active → a.frozen ≡ Some t → t ≤ last_second
  frozen_second a t m e =
      let good = all_at (λ (b : Active). IsGoodFlight b.flight) _ sound.flights a m in
      open_in_days _ _ t good.windows.spans
      (all_at (λ (x : Landing). IsTrue (is_open x.flight.windows s.closures x.second)) _ sound.frozen_open _
      (frozen_in _ a t m e))

  of_frozen : (g : Landing) → Member g (frozen_landings s) → (length g.flight.callsign ≤ 8) × (g.second ≤ last_second)
  of_frozen g m =
      let f = in_frozen _ g m in
      let same : g ≡ landing f.0 f.1 = f.4 in
      (rw same (active_name f.0 f.2), rw same (frozen_second f.0 f.1 f.2 f.3))

  unknown_short : (c : List ℕ) (r : Refusal) → length c ≤ 8 → unknown_or_frozen c (find (named c) s.active) ≡ Some r
      → IsShort r
  unknown_short c r name e = elim (cases_option (find (named c) s.active)) [
    | inl none ↦ (let w : Some (UnknownFlight c) ≡ Some r = rw none at e in let v : UnknownFlight c ≡ r =
        cc in subst IsShort v name)
    | inr some ↦ (
        let w : option_map Frozen some.0.frozen ≡ Some r = rw some.1 at e in
        elim (cases_option some.0.frozen) [
          | inl waits ↦ (let x : None ≡ Some r = rw waits at w in absurd (cc x))
          | inr t ↦ (let v : Frozen t.0 ≡ r = cc in
              subst IsShort v (frozen_second _ t.0 (found_in _ _ _ some.1).0 t.1))
        ])
  ]

  preceding_short : (c : List ℕ) (r : Refusal)
      → option_map (λ (g : Landing). PredecessorOfFrozen g.flight.callsign)
      (find (λ g. lists g.flight c) (frozen_landings s)) ≡ Some r → IsShort r
  preceding_short c r e = grind (arith, cases_option, of_frozen, found_in)

  pub refusal_short : (e : Event) (r : Refusal) → IsInDays s.clock → IsGoodEvent e → HasShortName e
      → refusal s e ≡ Some r → length (cause r) ≤ 30
  refusal_short e r clock good name is = cause_short r (go e good name is)
    where
      added : (f : Flight) → IsGoodFlight f → refusal s (Add f) ≡ Some r → IsShort r
      added f good is = elim (cases_Bool (list_any (named f.callsign) s.active)) [
        | inl there ↦ (let w : Some (Duplicate f.callsign) ≡ Some r = rw there at is in
            let v : Duplicate f.callsign ≡ r = cc in subst IsShort v (callsign_short _ good.callsign))
        | inr new ↦ elim (cases_Bool (nat_le most_flights (length s.active))) [
          | inl full ↦ (let v : TooManyFlights ≡ r = cc in subst IsShort v tt)
          | inr fits ↦ elim (cases_Bool (nat_le most_waiting (length (waiting s)))) [
            | inl full ↦ (let v : TooManyWaiting ≡ r = cc in subst IsShort v tt)
            | inr few ↦ preceding_short _ r (rw (new, fits, few) at is)
          ]
        ]
      ]

      closed : (span : Span) → refusal s (Close span) ≡ Some r → IsShort r
      closed span is = elim (cases_option (find (λ g. is_shut g.second span) (in_landing_order (frozen_landings s)))) [
        | inl none ↦ elim (cases_Bool (nat_le most_closures (length s.closures))) [
          | inl full ↦ (let w : Some TooManyClosures ≡ Some r = rw (none, full) at is in let v : TooManyClosures ≡ r =
              cc in subst IsShort v tt)
          | inr fits ↦ (let w : None ≡ Some r = rw (none, fits) at is in absurd (cc w))
        ]
        | inr some ↦ (let v : CoversFrozen some.0.flight.callsign some.0.second ≡ r = cc in
            subst IsShort v (of_frozen _ (order_member _ _ (found_in _ _ _ some.1).0)))
      ]

      back : (last : Option ℕ) (now : ℕ) → IsInDays last → clock_back last now ≡ Some r → IsShort r
      back None now h is = absurd (cc is)
      back (Some last) now h is = elim (cases_Bool (nat_lt now last)) [
        | inl before ↦ (let w : Some (ClockBack last) ≡ Some r = rw before at is in let v : ClockBack last ≡ r =
            cc in subst IsShort v h)
        | inr not_before ↦ (let w : None ≡ Some r = rw not_before at is in absurd (cc w))
      ]

      go : (e : Event) → IsGoodEvent e → HasShortName e → refusal s e ≡ Some r → IsShort r
      go (Revise c revision) good name is = unknown_short c r name is
      go (Cancel c) good name is = unknown_short c r name is
      go (Add f) good name is = added f good is
      go (Close span) good name is = closed _ is
      go (Reopen span) good name is = elim (cases_Bool (list_any (same_span span) s.closures)) [
        | inl there ↦ (let w : None ≡ Some r = rw there at is in absurd (cc w))
        | inr none ↦ (let v : UnknownClosure ≡ r = cc in subst IsShort v tt)
      ]
      go (Clock now) good name is = back _ now clock is
