-- The carry over a whole wait: while a flight waits and nobody comes to stand ahead of it who did not before, at
-- most k flights behind it freeze, all clock events together.
use Rattle.std.specs.Prelude.{◌≡◌, ℕ, ◌+◌, ◌≤◌, ⊤, Bool, true, false, List, [], ◌∷◌, Option, Some, None, IsTrue, All}
use Rattle.std.specs.Prelude.{filter, find, count_by, is_some}
use Rattle.std.specs.Ordering.{is_lt}
use Rattle.landing_rules.specs.Flights.{Callsign, Flight, Active, Situation, Schedule, Landing, landings, waiting}
use Rattle.landing_rules.specs.Rules.{arrival_cmp, IsFeasible}
use Rattle.landing_rules.specs.Events.{Event, Clock, Refusal, named, freezes, State, Step, Answered, Run, refusal}
use Rattle.landing_rules.specs.Events.{situation_after}
use Rattle.landing_rules.specs.Sound.{IsSound, IsSoundState, IsGoodEvent}

-- ---- who waits, and who stands ahead

-- the waiting flight of this name, if there is one
abbrev pub waiting_flight : Situation → Callsign → Option Active
waiting_flight s c = find (named c) (waiting s)

abbrev pub waits_in : Situation → Callsign → Bool
waits_in s c = is_some (waiting_flight s c)

-- the one is ahead of the other in first-come order
abbrev pub is_ahead : Option Active → Option Active → Bool
is_ahead None f = false
is_ahead (Some g) None = false
is_ahead (Some g) (Some f) = is_lt (arrival_cmp g.flight f.flight)

-- the waiting flight named d stands ahead of the waiting flight named c
abbrev pub stands_ahead : Situation → Callsign → Callsign → Bool
stands_ahead s d c = is_ahead (waiting_flight s d) (waiting_flight s c)

-- through a step the flight stays waiting, and nobody comes to stand ahead of it who did not before
pub record StaysInLine (c : Callsign) (old new : Situation) : Type 0 where
  pub waits : IsTrue (waits_in new c)
  pub nobody_new : (d : Callsign) → IsTrue (stands_ahead new d c) → IsTrue (stands_ahead old d c)

-- the same through each step of a run
abbrev pub StaysInLineThrough : Callsign → State → List Answered → Type 0
StaysInLineThrough c old [] = ⊤
StaysInLineThrough c old (a ∷ answers) = StaysInLine c old.situation a.state.situation
    × StaysInLineThrough c a.state answers

-- ---- how many pass a flight

-- how many landings of flights behind f freeze before the horizon h
abbrev pub count_passing : ℕ → List Landing → Flight → ℕ
count_passing h all f = count_by (λ g. is_lt (arrival_cmp f g.flight)) (filter (freezes h) all)

-- by the plan shown; with none no flight freezes
abbrev pub passing_by_plan : Situation → Option Schedule → ℕ → Flight → ℕ
passing_by_plan s None h f = 0
passing_by_plan s (Some t) h f = count_passing h (landings s.active t) f

-- by an accepted event: the clock alone freezes flights
abbrev pub passing_by_event : State → Event → Flight → ℕ
passing_by_event old (Clock now) f = passing_by_plan old.situation old.plan (now + old.situation.aerodrome.freeze) f
passing_by_event old e f = 0

abbrev pub passing_flight : State → Event → Option Active → ℕ
passing_flight old e None = 0
passing_flight old e (Some a) = passing_by_event old e a.flight

-- by a step: how many flights behind the one named c freeze; a refused event changes nothing
abbrev pub passing_in_step : State → Event → Option Refusal → Callsign → ℕ
passing_in_step old e None c = passing_flight old e (waiting_flight old.situation c)
passing_in_step old e (Some r) c = 0

-- by all the steps of a run
abbrev pub passing_in_run : State → List Event → List Answered → Callsign → ℕ
passing_in_run old (e ∷ events) (a ∷ answers) c =
    passing_in_step old e a.answer c + passing_in_run a.state events answers c
passing_in_run old [] answers c = 0
passing_in_run old (e ∷ events) [] c = 0

-- ---- the laws

-- each waiting flight that does not stand behind the one named c was passed at least g times
abbrev pub ArePassedAtLeast : ℕ → Situation → Callsign → Type 0
ArePassedAtLeast g s c = (f : Active) → waiting_flight s c ≡ Some f
    → All (λ x. is_lt (arrival_cmp f.flight x.flight) ≡ false → g ≤ x.passed) (waiting s)

-- where so many passed already, by any feasible plan a clock event freezes so few flights behind f that they are at
-- most k together; and each of those flights that waits on was passed by so many more
pub record ClockCounts (s : Situation) (t : Schedule) (now : ℕ) (c : Callsign) (f : Active) (g : ℕ) : Type 0 where
  pub few : g + count_passing (now + s.aerodrome.freeze) (landings s.active t) f.flight ≤ s.aerodrome.k
  pub counted : ArePassedAtLeast (g + count_passing (now + s.aerodrome.freeze) (landings s.active t) f.flight)
      (situation_after s (Some t) (Clock now)) c

abbrev pub ClockCountsLaw : Type 0
ClockCountsLaw = (s : Situation) (t : Schedule) (now : ℕ) (c : Callsign) (f : Active) (g : ℕ)
    → IsSound s → s.aerodrome.carry ≡ true → IsFeasible s t → refusal s (Clock now) ≡ None →
    waiting_flight s c ≡ Some f → IsTrue (waits_in (situation_after s (Some t) (Clock now)) c)
    → ArePassedAtLeast g s c → ClockCounts s t now c f g

-- so through any step, whatever the event and its answer
pub record StepCounts (old : State) (e : Event) (answer : Option Refusal) (new : State) (c : Callsign)
    (g : ℕ) : Type 0 where
  pub few : g + passing_in_step old e answer c ≤ old.situation.aerodrome.k
  pub counted : ArePassedAtLeast (g + passing_in_step old e answer c) new.situation c

abbrev pub StepCountsLaw : Type 0
StepCountsLaw = (old new : State) (e : Event) (answer : Option Refusal) (c : Callsign) (g : ℕ)
    → IsSoundState old → old.situation.aerodrome.carry ≡ true → IsGoodEvent e → Step old e answer new →
    IsTrue (waits_in old.situation c) → StaysInLine c old.situation new.situation → ArePassedAtLeast g old.situation c
    → StepCounts old e answer new c g

-- with the carry, a flight that stays in line through a run is passed by at most k flights
abbrev pub FewPassLaw : Type 0
FewPassLaw = (old : State) (events : List Event) (answers : List Answered) (c : Callsign) → IsSoundState old
    → old.situation.aerodrome.carry ≡ true → All IsGoodEvent events → Run old events answers →
    IsTrue (waits_in old.situation c) → StaysInLineThrough c old answers
    → passing_in_run old events answers c ≤ old.situation.aerodrome.k

-- and by fewer, where each that does not stand behind it was passed by g already
abbrev pub FewPassLaterLaw : Type 0
FewPassLaterLaw = (old : State) (events : List Event) (answers : List Answered) (c : Callsign) (g : ℕ)
    → IsSoundState old → old.situation.aerodrome.carry ≡ true → All IsGoodEvent events → Run old events answers →
    IsTrue (waits_in old.situation c) → StaysInLineThrough c old answers → ArePassedAtLeast g old.situation c
    → g + passing_in_run old events answers c ≤ old.situation.aerodrome.k

-- the flight waits, and nobody stands ahead of it
pub record IsFirstInLine (c : Callsign) (s : Situation) : Type 0 where
  pub waits : IsTrue (waits_in s c)
  pub nobody : (d : Callsign) → stands_ahead s d c ≡ false

-- so of a flight that is first in first-come order before and after each step: those that passed it before and those
-- of the run are at most k together
abbrev pub FewPassFirstLaw : Type 0
FewPassFirstLaw = (old : State) (events : List Event) (answers : List Answered) (c : Callsign) (f : Active)
    → IsSoundState old → old.situation.aerodrome.carry ≡ true → All IsGoodEvent events → Run old events answers →
    waiting_flight old.situation c ≡ Some f → IsFirstInLine c old.situation
    → All (λ a. IsFirstInLine c a.state.situation) answers
    → f.passed + passing_in_run old events answers c ≤ old.situation.aerodrome.k

-- ---- where k is at most 1

-- by any feasible plan a clock event raises the count of a flight that waits on by those that pass it
abbrev pub ClockCountsExactlyLaw : Type 0
ClockCountsExactlyLaw = (s : Situation) (t : Schedule) (now : ℕ) (c : Callsign) (f g : Active)
    → IsSound s → s.aerodrome.carry ≡ true → s.aerodrome.k ≤ 1 → IsFeasible s t → refusal s (Clock now) ≡ None →
    waiting_flight s c ≡ Some f → waiting_flight (situation_after s (Some t) (Clock now)) c ≡ Some g
    → g.passed ≡ f.passed + count_passing (now + s.aerodrome.freeze) (landings s.active t) f.flight

-- so a flight that stays waiting through a run is passed by at most k flights, whoever comes to stand ahead of it
abbrev pub FewPassAnyoneLaw : Type 0
FewPassAnyoneLaw = (old : State) (events : List Event) (answers : List Answered) (c : Callsign) (f : Active)
    → IsSoundState old → old.situation.aerodrome.carry ≡ true → old.situation.aerodrome.k ≤ 1
    → All IsGoodEvent events → Run old events answers →
    waiting_flight old.situation c ≡ Some f → All (λ a. IsTrue (waits_in a.state.situation c)) answers
    → f.passed + passing_in_run old events answers c ≤ old.situation.aerodrome.k
