-- What the printed text of a replay fixes and promises, over the bytes of its files.
use Rattle.std.specs.Prelude.{◌≡◌, ⊤, ℕ, ◌≤◌, true, IsTrue, List, ◌∷◌, All, Some, None}
use Rattle.landing_rules.specs.Flights.{Callsign, Schedule}
use Rattle.landing_rules.specs.Rules.{objective}
use Rattle.landing_rules.specs.Events.{State, Event, Clock, Answered}
use Rattle.landing_rules.specs.Sound.{IsSoundState}
use Rattle.landing_joint.specs.PassedOver.{StaysInLineThrough, passing_in_run, waits_in}
use Rattle.endings.specs.declared.ending.Answer.{Answer}
use Rattle.planning_commands.specs.Replay.{AdmitsReplay}

-- two replays of the same files with the same text have the same opening state, and the same answers and states after
-- it
abbrev pub TextFixesReplayLaw : Type 0
TextFixesReplayLaw = (aerodrome flights log text : List ℕ) (x y : Answer)
    (a : AdmitsReplay aerodrome flights log text x) (b : AdmitsReplay aerodrome flights log text y)
    → (a.state ≡ b.state) × (a.answers ≡ b.answers)

-- every state of a printed replay is sound: its plan is best and tight, or there is none and nothing is feasible
abbrev pub ReplayIsSoundLaw : Type 0
ReplayIsSoundLaw = (aerodrome flights log text : List ℕ) (x : Answer) (a : AdmitsReplay aerodrome flights log text x)
    → IsSoundState a.state × All (λ answered. IsSoundState answered.state) a.answers

-- a property of each step of a run: the state before, the event, and what it came to
abbrev pub EachStep : (State → Event → Answered → Type 0) → State → List Event → List Answered → Type 0
EachStep P old (e ∷ events) (a ∷ answers) = P old e a × EachStep P a.state events answers
EachStep P old events answers = ⊤

-- where a clock event is accepted and finds a plan shown, one is shown again, and its objective is not greater
abbrev pub IsNoDearerAfterClock : State → Event → Answered → Type 0
IsNoDearerAfterClock old e a = (now : ℕ) (t : Schedule) → e ≡ Clock now → a.answer ≡ None → old.plan ≡ Some t
    → (u : Schedule) × (a.state.plan ≡ Some u) × (objective a.state.situation u ≤ objective old.situation t)

-- so it is at each step of a printed replay
abbrev pub ClockIsNoDearerLaw : Type 0
ClockIsNoDearerLaw = (aerodrome flights log text : List ℕ) (x : Answer) (a : AdmitsReplay aerodrome flights log text x)
    → EachStep IsNoDearerAfterClock a.state a.events a.answers

-- with the carry, a flight that waits through a printed replay while nobody new comes to stand ahead of it is passed by
-- at most k flights: these stand behind it and freeze while it waits on
abbrev pub FewPassReplayLaw : Type 0
FewPassReplayLaw = (aerodrome flights log text : List ℕ) (x : Answer) (a : AdmitsReplay aerodrome flights log text x)
    (c : Callsign)
    → a.state.situation.aerodrome.carry ≡ true → IsTrue (waits_in a.state.situation c)
    → StaysInLineThrough c a.state a.answers
    → passing_in_run a.state a.events a.answers c ≤ a.state.situation.aerodrome.k
