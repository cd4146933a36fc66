-- How many bytes the texts of these commands have at most, over the bytes of their files.
use Rattle.std.specs.Prelude.{ℕ, ◌+◌, ◌*◌, ◌<◌, ◌≤◌, List, length}
use Rattle.endings.specs.declared.ending.Answer.{Answer}
use Rattle.openings.specs.Plan.{AdmitsPlan}
use Rattle.text_bounds.specs.Blocks.{block_bound}
use Rattle.text_bounds.specs.Counts.{event_count, flight_count}
use Rattle.text_bounds.specs.Replays.{replay_bound}
use Rattle.text_bounds.specs.Trials.{trial_bound}
use Rattle.planning_commands.specs.Effort.{StandsEffort}
use Rattle.planning_commands.specs.Replay.{StandsReplay}
use Rattle.planning_commands.specs.Trial.{AdmitsTrial}

-- the first line of an effort has at most 29 bytes, the last 18, and that of an event 50
abbrev pub effort_bound : ℕ → ℕ
effort_bound events = 47 + 50 * events

abbrev pub PlanTextIsBoundedLaw : Type 0
PlanTextIsBoundedLaw = (aerodrome flights text : List ℕ) (answer : Answer) → AdmitsPlan aerodrome flights text answer
    → length text ≤ block_bound (flight_count flights)

-- also one that stops early
abbrev pub ReplayTextIsBoundedLaw : Type 0
ReplayTextIsBoundedLaw = (aerodrome flights log : List ℕ) (puts : ℕ) (text : List ℕ)
    → StandsReplay aerodrome flights log puts text
    → length text ≤ replay_bound (flight_count flights) (event_count log)

abbrev pub EffortTextIsBoundedLaw : Type 0
EffortTextIsBoundedLaw = (aerodrome flights log : List ℕ) (puts : ℕ) (text : List ℕ)
    → StandsEffort aerodrome flights log puts text
    → length text ≤ effort_bound (event_count log)

-- for up to 99 flights and a bound on shifts of one digit, as the command takes them
abbrev pub TrialTextIsBoundedLaw : Type 0
TrialTextIsBoundedLaw = (seed n k : ℕ) (text : List ℕ) (answer : Answer) → n < 100 → k < 10
    → AdmitsTrial seed n k text answer
    → length text ≤ trial_bound
