-- With the carry a flight is passed by at most k flights, as long as nobody new comes to stand ahead of it.
use Rattle.std.proofs.Common.{◌≡◌, ℕ, ◌+◌, ◌≤◌, inl, inr, min, true, false, List, Some, refl, sym, ap, ap₂, subst, ◌∙◌}
use Rattle.std.proofs.Common.{arith}
use Rattle.std.specs.Prelude.{◌≢◌}
use Rattle.std.specs.Ordering.{is_lt}
use Rattle.std.proofs.lemmas.Bool.{false≢true, le-ltb}
use Rattle.std.proofs.lemmas.List.Kept.{AllPairs-filter}
use Rattle.std.proofs.lemmas.Slice.Eq.{bytes_eq-Decides}
use Rattle.std.proofs.lemmas.Option.{same_Some}
use Rattle.landing_rules.specs.Flights.{Active, Callsign, Flight, Schedule, Situation, horizon, landings, waiting}
use Rattle.landing_rules.specs.Rules.{arrival_cmp, IsFeasible}
use Rattle.landing_rules.specs.Events.{Clock, named, situation_after}
use Rattle.landing_rules.specs.Sound.{IsSound}
use Rattle.cps_theory.specs.RankLists.{In}
use Rattle.cps_theory.specs.Freeze.{KeepsCountedShift, overtook, staying_of}
use Rattle.cps_theory.specs.NumberedSituation as numbers
use Rattle.cps_theory.specs.laws.Members.{filter_in, in_filter}
use Rattle.landing_joint.specs.Numbered.{numbered, second_of, numbers_of, waits_at, comes_before, numbered_situation}
use Rattle.landing_joint.specs.PassedOver.{waiting_flight, waits_in, count_passing, ArePassedAtLeast, ClockCounts}
use Rattle.landing_joint.specs.PassedOver.{ClockCountsLaw, ClockCountsExactlyLaw}
use Rattle.landing_joint.specs.shared.Members.{Differ, callsigns, differ_of, one_of_name}
use Rattle.landing_joint.specs.shared.Events.{named_is}
use Rattle.landing_joint.proofs.FirstStays.{bound_overtook, few_overtook_itself, fewer_overtook}
use Rattle.landing_joint.proofs.Joint.{all_among, comes_is, feasible_numbered, first_come, passed_low}
use Rattle.landing_joint.proofs.Clock.{at_after, forth_of, late_after, passing_is, same_flight, waiting_after}
use Rattle.landing_joint.proofs.Clock.{waiting_before, waiting_changed}
use Rattle.landing_rules.specs.shared.Counting.{Member}
use Rattle.landing_rules.specs.shared.Members.{in_map, map_in, found_in, none_found, cases_option, all_at, all_from}

-- ---- the flight of a name

pub found : (s : Situation) (c : Callsign) (f : Active) → waiting_flight s c ≡ Some f
    → Member f (waiting s) × (f.flight.callsign ≡ c)
found s c f e = let r = found_in _ _ f e in (r.0, named_is c f r.1)

pub names_waiting : (s : Situation) → IsSound s → Differ (callsigns (waiting s))
names_waiting s sound = differ_of _
    (AllPairs-filter (λ (a b : Active). a.flight.callsign ≢ b.flight.callsign) _ _ sound.callsigns)

pub is_found : (s : Situation) → IsSound s → (c : Callsign) (f : Active) → Member f (waiting s)
    → f.flight.callsign ≡ c → waiting_flight s c ≡ Some f
is_found s sound c f m e = elim (cases_option _) [
  | inl q ↦ absurd (false≢true (sym (none_found (named c) _ f q m) ∙ (bytes_eq-Decides _ c).1 e))
  | inr w ↦ (let r = found s c w.0 w.1 in w.1
      ∙ ap Some (one_of_name _ w.0 f (names_waiting s sound) r.0 m (r.1 ∙ sym e)))
]

pub some_flight : (s : Situation) (c : Callsign) → waits_in s c ≡ true → (f : Active) × (waiting_flight s c ≡ Some f)
some_flight s c e = grind (arith, cases_option, false≢true)

-- ---- a clock event, by any feasible plan

module _ (s : Situation) (sound : IsSound s) (t : Schedule) (ok : IsFeasible s t) (now : ℕ)
    (forth : horizon s ≤ now + s.aerodrome.freeze) (carry : s.aerodrome.carry ≡ true) where
  abbrev h : ℕ
  h = now + s.aerodrome.freeze

  abbrev changed : Situation
  changed = situation_after s (Some t) (Clock now)

  abbrev ns : numbers.NumberedSituation
  ns = numbered_situation s

  abbrev stay : List ℕ
  stay = staying_of (second_of t) h ns.waiting

  abbrev over : ℕ → ℕ
  over i = overtook (comes_before s.active) (second_of t) h ns.waiting i

  shifted : (i : ℕ) → In i ns.waiting → KeepsCountedShift s.aerodrome.k ns.back (comes_before s.active)
      (second_of t) ns.waiting i
  shifted = (feasible_numbered s sound t ok.0 ok).shifted

  stays : (i : ℕ) → In i stay → In i (numbers_of s.active) × (waits_at s.active i ≡ true) × (h ≤ second_of t i)
  stays i m = late_after s sound t ok now forth i (rw (waiting_after s sound t ok now forth) m)

  waited : (i : ℕ) → In i stay → In i ns.waiting
  waited i m = let w = stays i m in filter_in _ i _ w.0 w.1

  -- whoever stays counts those that overtook it
  counted_after : (i : ℕ) → In i stay → (numbered changed.active i).passed ≡ min s.aerodrome.k
      ((numbered s.active i).passed + over i)
  counted_after i m =
      let w = stays i m in
      (at_after s sound t ok now forth i w.0).counted carry w.1 (le-ltb _ h w.2)
      ∙ ap (λ n. min s.aerodrome.k ((numbered s.active i).passed + n)) (passing_is s sound t ok now forth i w.0)

  -- by number, where each that does not stand behind i was passed g times
  module _ (g : ℕ) (i : ℕ) (m : In i stay) (least : (x : ℕ) → In x ns.waiting → comes_before s.active i x ≡ false
      → g ≤ (numbered s.active x).passed) where
    few_numbers : g + over i ≤ s.aerodrome.k
    few_numbers =
        let r = bound_overtook _ (first_come s.active) _ _ _ h _ shifted i m in grind (arith, passed_low, stays, waited)

    counted_numbers : (x : ℕ) → In x stay → comes_before s.active i x ≡ false
        → g + over i ≤ (numbered changed.active x).passed
    counted_numbers x n ahead =
        let few = few_numbers in
        let l = least x (waited x n) ahead in
        let o = fewer_overtook _ (first_come s.active) _ _ _ h _ shifted i x ahead in grind (arith, counted_after)

  at_number : (y : Active) → Member y (waiting changed) → (i : ℕ) × In i stay × (y ≡ numbered changed.active i)
  at_number y m =
      let r = in_map _ _ y (rw (waiting_changed s sound t ok now forth) at m) in
      (r.0, subst (In r.0) (waiting_after s sound t ok now forth) r.1, r.2)

  was_waiting : (i : ℕ) → In i ns.waiting → Member (numbered s.active i) (waiting s)
  was_waiting i m = rw (waiting_before s sound t ok now forth) (map_in _ _ i m)

  flight_at : (y : Active) (i : ℕ) → In i stay → y ≡ numbered changed.active i → y.flight ≡ (numbered s.active i).flight
  flight_at y i m e = ap (λ (a : Active). a.flight) e ∙ same_flight s sound t ok now forth i (stays i m).0

  -- no two of those that wait land at one second
  seconds_differ : (i j : ℕ) → In i ns.waiting → In j ns.waiting → i ≢ j → second_of t i ≢ second_of t j
  seconds_differ i j m n ne e =
      let b = all_among s sound j (in_filter _ j _ n).0 in
      let gap = (feasible_numbered s sound t ok.0 ok).separated i j (all_among s sound i (in_filter _ i _ m).0) b ne
      (omega arith) in
      omega arith

  -- f is one that stays, and its number counts the same
  module _ (c : Callsign) (f : Active) (here : waiting_flight s c ≡ Some f) (later : waits_in changed c ≡ true) where
    abbrev passing : ℕ
    passing = count_passing h (landings s.active t) f.flight

    pub record Named (i : ℕ) : Type 0 where
      pub stays : In i stay
      pub was : f ≡ numbered s.active i
      pub is : waiting_flight changed c ≡ Some (numbered changed.active i)

    named_number : (i : ℕ) × Named i
    named_number =
        let b = some_flight changed c later in
        let mb = found changed c b.0 b.1 in
        let n = at_number b.0 mb.0 in
        let was = found s c f here in
        let same = ap (λ (x : Flight). x.callsign) (sym (flight_at b.0 n.0 n.1 n.2)) ∙ mb.1 in (
          n.0,
          record {
            stays = n.1;
            was = one_of_name (waiting s) f (numbered s.active n.0) (names_waiting s sound) was.0
                (was_waiting n.0 (waited n.0 n.1)) (was.1 ∙ sym same);
            is = b.1 ∙ ap Some n.2;
          },
        )

    passing_are : (i : ℕ) → Named i → passing ≡ over i
    passing_are i n = ap (λ (a : Active). count_passing h (landings s.active t) a.flight) n.was
        ∙ passing_is s sound t ok now forth i (stays i n.stays).0

    module _ (g : ℕ) (least : ArePassedAtLeast g s c) (i : ℕ) (n : Named i) where
      -- who does not stand behind by number does not by arrival
      behind_are : (x : ℕ) → In x ns.waiting
          → comes_before s.active i x ≡ is_lt (arrival_cmp f.flight (numbered s.active x).flight)
      behind_are x m = grind (arith, comes_is, stays, in_filter)

      least_numbers : (x : ℕ) → In x ns.waiting → comes_before s.active i x ≡ false → g ≤ (numbered s.active x).passed
      least_numbers x m ahead = all_at (λ (x : Active). is_lt (arrival_cmp f.flight x.flight) ≡ false
          → g ≤ x.passed) _ (least f here) _ (was_waiting x m) (sym (behind_are x m) ∙ ahead)

      counted_each : (y : Active) → Member y (waiting changed)
          → is_lt (arrival_cmp (numbered changed.active i).flight y.flight) ≡ false → g + passing ≤ y.passed
      counted_each y m ahead =
          let x = at_number y m in
          let a = flight_at _ i n.stays refl ∙ ap (λ (b : Active). b.flight) (sym n.was) in
          let not_behind = behind_are x.0 (waited x.0 x.1) ∙ ap₂ (λ p q. is_lt (arrival_cmp p q)) (sym a)
          (sym (flight_at y x.0 x.1 x.2)) ∙ ahead in
          let few = counted_numbers g i n.stays least_numbers x.0 x.1 not_behind in grind (arith, passing_are)

      counts : ClockCounts s t now c f g
      counts = record {
        few = (let a = few_numbers g i n.stays least_numbers in let p = passing_are i n in omega arith);
        counted = λ b e. all_from (λ (y : Active). is_lt (arrival_cmp b.flight y.flight) ≡ false
            → g + passing ≤ y.passed) (waiting changed) (λ y m ahead. counted_each y m (cc));
      }

    pub clock_counts_at : (g : ℕ) → ArePassedAtLeast g s c → ClockCounts s t now c f g
    clock_counts_at g least = let n = named_number in counts g least n.0 n.1

    -- where k is at most 1, its own leave to go back bounds those that pass it, so that its count tells them
    pub counts_exactly : s.aerodrome.k ≤ 1 → (b : Active) → waiting_flight changed c ≡ Some b
        → b.passed ≡ f.passed + passing
    counts_exactly low b e =
        let n = named_number in
        let i = n.0 in
        let w = stays i n.1.stays in
        let few = few_overtook_itself _ (first_come s.active)
        _ _ _ _ shifted (λ x m. omega arith) seconds_differ h i (waited i n.1.stays) w.2 in
        let p = passed_low s sound t ok.0 i w.0 in grind (arith, counted_after, stays, same_Some, passing_are)

pub clock_counts : ClockCountsLaw
clock_counts s t now c f g sound carry ok e here later least = search (clock_counts_at, forth_of)

pub clock_counts_exactly : ClockCountsExactlyLaw
clock_counts_exactly s t now c f g sound carry low ok e here later = grind (arith, counts_exactly, forth_of)
