-- What a plan and a run print, as lines and as bytes.
use Rattle.std.specs.Prelude.{◌≡◌, ℕ, ◌+◌, ◌<◌, ◌^◌, Bool, not, List, [], ◌∷◌, ◌++◌, Option, Some, None, codes}
use Rattle.std.specs.Prelude.{decimal, flat_map, map, option_map, if◌then◌else◌}
use Rattle.landing_rules.specs.declared.objective.Objective.{Objective}
use Rattle.landing_rules.specs.declared.objective.Objective.TheVariants.{Makespan, Delay}
use Rattle.landing_rules.specs.Flights.{Callsign, Situation, Schedule, Landing, landings}
use Rattle.landing_rules.specs.Rules.{waits, objective}
use Rattle.landing_rules.specs.Events.{Refusal, UnknownFlight, Frozen, Duplicate, TooManyFlights, TooManyWaiting}
use Rattle.landing_rules.specs.Events.{PredecessorOfFrozen, CoversFrozen, TooManyClosures, UnknownClosure, ClockBack}
use Rattle.landing_rules.specs.Events.{in_landing_order, State, Answered}

abbrev pub Bytes : Type 0
Bytes = List ℕ

abbrev pub line : Bytes → Bytes
line text = text ++ 10 ∷ []

-- a text of lines
abbrev pub lines_text : List Bytes → Bytes
lines_text lines = flat_map line lines

-- ---- a plan, as it is shown

pub record ShownLanding : Type 0 where
  pub callsign : Callsign
  pub second : ℕ
  pub frozen : Bool

pub record ShownPlan : Type 0 where
  pub value : ℕ
  pub landings : List ShownLanding

abbrev pub objective_word : Objective → Bytes
objective_word Makespan = codes "makespan "
objective_word Delay = codes "delay "

abbrev pub frozen_word : Bool → Bytes
frozen_word frozen = if frozen then codes " frozen" else codes " waiting"

abbrev pub landing_words : ShownLanding → Bytes
landing_words f = codes "land " ++ (f.callsign ++ codes " " ++ (decimal f.second ++ frozen_word f.frozen))

abbrev pub head_words : Objective → ℕ → Bytes
head_words o value = objective_word o ++ decimal value

-- the objective and then the landings in their order, or that there is no plan
abbrev pub block_lines : Objective → Option ShownPlan → List Bytes
block_lines o None = codes "infeasible" ∷ []
block_lines o (Some p) = head_words o p.value ∷ map landing_words p.landings

abbrev pub block_text : Objective → Option ShownPlan → Bytes
block_text o p = lines_text (block_lines o p)

-- ---- the plan of a state

abbrev pub shown_landing : Landing → ShownLanding
shown_landing f = record { callsign = f.flight.callsign; second = f.second; frozen = not (waits f) }

abbrev pub shown_plan : Situation → Schedule → ShownPlan
shown_plan s t = record { value = objective s t; landings = map shown_landing (in_landing_order (landings s.active t)) }

abbrev pub plan_shown : State → Option ShownPlan
plan_shown state = option_map (shown_plan state.situation) state.plan

abbrev pub plan_lines : State → List Bytes
plan_lines state = block_lines state.situation.aerodrome.objective (plan_shown state)

-- ---- refusals and runs

abbrev pub cause : Refusal → Bytes
cause (UnknownFlight c) = codes "unknown-flight " ++ c
cause (Frozen second) = codes "frozen " ++ decimal second
cause (Duplicate c) = codes "duplicate " ++ c
cause TooManyFlights = codes "too-many-flights"
cause TooManyWaiting = codes "too-many-waiting"
cause (PredecessorOfFrozen c) = codes "predecessor-of-frozen " ++ c
cause (CoversFrozen c second) = codes "covers-frozen " ++ (c ++ codes " " ++ decimal second)
cause TooManyClosures = codes "too-many-closures"
cause UnknownClosure = codes "unknown-closure"
cause (ClockBack second) = codes "clock-back " ++ decimal second

abbrev pub accepted_words : ℕ → Bytes
accepted_words i = codes "event " ++ (decimal i ++ codes " accepted")

abbrev pub refused_words : ℕ → Refusal → Bytes
refused_words i r = codes "event " ++ (decimal i ++ codes " refused " ++ cause r)

-- event i's answer, and the plan after it where it was accepted
abbrev pub answer_lines : ℕ → Option Refusal → State → List Bytes
answer_lines i None state = accepted_words i ∷ plan_lines state
answer_lines i (Some r) state = refused_words i r ∷ []

abbrev pub answer_text : ℕ → Option Refusal → State → Bytes
answer_text i answer state = lines_text (answer_lines i answer state)

abbrev pub answers_text : ℕ → List Answered → Bytes
answers_text i [] = []
answers_text i (a ∷ rest) = answer_text i a.answer a.state ++ answers_text (i + 1) rest

abbrev pub begun_text : State → Bytes
begun_text opening = lines_text (codes "event 0 begun" ∷ plan_lines opening)

-- the text of a run
abbrev pub replay_text : State → List Answered → Bytes
replay_text opening answers = begun_text opening ++ answers_text 1 answers

-- ---- that a block tells its plan

-- no blank and no control code
abbrev pub IsName : Callsign → Type 0
IsName [] = Unit {0}
IsName (b ∷ rest) = (32 < b) × IsName rest

abbrev pub AreNamed : List ShownLanding → Type 0
AreNamed [] = Unit {0}
AreNamed (f ∷ rest) = (IsName f.callsign × (f.second < 2 ^ 64)) × AreNamed rest

abbrev pub IsShowable : Option ShownPlan → Type 0
IsShowable None = Unit {0}
IsShowable (Some p) = (p.value < 2 ^ 64) × AreNamed p.landings

-- two plans with the same block are the same
abbrev pub BlockLaw : Type 0
BlockLaw = (o : Objective) (p q : Option ShownPlan) → IsShowable p → IsShowable q → block_text o p ≡ block_text o q
    → p ≡ q
