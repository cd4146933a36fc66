-- The commands: how their words read, what each admits over the contents of its files, and how many bytes it prints.
use Rattle.std.specs.Prelude.{ℕ, ◌&&◌, ◌==◌, ◌≤◌, ⊤, List, [], ◌∷◌, length, drop, codes, bytes_eq, Option, Some, None}
use Rattle.std.specs.Prelude.{option_map, unwrap_or, if◌then◌else◌}
use Rattle.std.specs.Result.{result_ok}
use Rattle.cps_base.specs.Number.{number_within}
use Rattle.cps_base.specs.Limits.{greatest_k, greatest_word, most_waiting}
use Rattle.cps_top.specs.declared.commands.Command.{Command}
use Rattle.cps_top.specs.declared.commands.Command.TheVariants.{Plan, Replay, Certify, Check, Effort, Trial, First}
use Rattle.cps_top.specs.declared.commands.Command.TheVariants.{WhatIf, Audit}
use Rattle.endings.specs.declared.ending.Answer.{Answer}
use Rattle.endings.specs.declared.ending.FilesFault.{FilesFault}
use Rattle.openings.specs.Follows.{StandsAtOnce}
use Rattle.openings.specs.Plan.{AdmitsPlan, RefusesPlan}
use Rattle.planning_commands.specs.Replay.{AdmitsReplay, RefusesReplay, StandsReplay, replay_puts}
use Rattle.planning_commands.specs.Effort.{AdmitsEffort, StandsEffort, effort_puts}
use Rattle.planning_commands.specs.Trial.{AdmitsTrial}
use Rattle.planning_commands.specs.TextLengths.{effort_bound}
use Rattle.certificate_commands.specs.Certify.{AdmitsCertify}
use Rattle.certificate_commands.specs.Check.{AdmitsCheck, RefusesCheck}
use Rattle.certificate_commands.specs.TextLaws.{certify_bound, check_bound}
use Rattle.inquiry_commands.specs.First.{AdmitsFirst}
use Rattle.inquiry_commands.specs.WhatIf.{AdmitsWhatIf, RefusesWhatIf}
use Rattle.inquiry_commands.specs.Audit.{AdmitsAudit, RefusesAudit, audit_bound, line_count}
use Rattle.text_bounds.specs.Blocks.{block_bound}
use Rattle.text_bounds.specs.Counts.{event_count, flight_count, trial_count}
use Rattle.text_bounds.specs.Replays.{replay_bound}
use Rattle.text_bounds.specs.Trials.{outcomes_bound, trial_bound}

-- the number that a word is, of those from least to most
abbrev pub number_of : List ℕ → ℕ → ℕ → Option ℕ
number_of word least most = result_ok (number_within word least most)

abbrev pub trial_by : Option ℕ → Option ℕ → Option ℕ → Option Command
trial_by (Some seed) (Some n) (Some k) = Some (Trial seed n k)
trial_by seed n k = None

-- a seed, a number of flights and a bound on shifts
abbrev pub trial_of : List (List ℕ) → Option Command
trial_of (seed ∷ n ∷ k ∷ []) =
    trial_by (number_of seed 0 greatest_word) (number_of n 1 most_waiting) (number_of k 0 greatest_k)
trial_of words = None

-- the command that these words fit
abbrev pub command_of : List (List ℕ) → Option Command
command_of [] = None
command_of (word ∷ rest) =
    if bytes_eq word (codes "plan") && (length rest == 2) then Some Plan
    else if bytes_eq word (codes "replay") && (length rest == 3) then Some Replay
    else if bytes_eq word (codes "certify") && (length rest == 2) then Some Certify
    else if bytes_eq word (codes "check") && (length rest == 3) then Some Check
    else if bytes_eq word (codes "effort") && (length rest == 3) then Some Effort
    else if bytes_eq word (codes "first") && (length rest == 2) then Some First
    else if bytes_eq word (codes "whatif") && (length rest == 3) then Some WhatIf
    else if bytes_eq word (codes "audit") && (length rest == 3) then Some Audit
    else if bytes_eq word (codes "trial") then trial_of rest
    else None

-- the words that name its files, in their order
abbrev pub names_of : Command → List (List ℕ) → List (List ℕ)
names_of (Trial seed n k) words = []
names_of command words = drop 1 words

-- the same of words, where they fit a command
abbrev pub files_of : List (List ℕ) → List (List ℕ)
files_of words = unwrap_or (option_map (λ command. names_of command words) (command_of words)) []

-- what is asked of its numbers
abbrev pub IsCommandInRange : Command → Type 0
IsCommandInRange (Trial seed n k) = (1 ≤ n) × (n ≤ most_waiting) × (k ≤ greatest_k)
IsCommandInRange command = ⊤

-- how many files it has
abbrev pub file_count : Command → ℕ
file_count Plan = 2
file_count Replay = 3
file_count Certify = 2
file_count Check = 3
file_count Effort = 3
file_count (Trial seed n k) = 0
file_count First = 2
file_count WhatIf = 3
file_count Audit = 3

-- Over these contents of its files a command may print this text, whole, and answer so.
abbrev pub Admits : Command → List (List ℕ) → List ℕ → Answer → Type 0
Admits Plan (aerodrome ∷ flights ∷ []) = AdmitsPlan aerodrome flights
Admits Replay (aerodrome ∷ flights ∷ events ∷ []) = AdmitsReplay aerodrome flights events
Admits Certify (aerodrome ∷ flights ∷ []) = AdmitsCertify aerodrome flights
Admits Check (aerodrome ∷ flights ∷ certificate ∷ []) = AdmitsCheck aerodrome flights certificate
Admits Effort (aerodrome ∷ flights ∷ events ∷ []) = AdmitsEffort aerodrome flights events
Admits (Trial seed n k) [] = AdmitsTrial seed n k
Admits First (aerodrome ∷ flights ∷ []) = AdmitsFirst aerodrome flights
Admits WhatIf (aerodrome ∷ flights ∷ trials ∷ []) = AdmitsWhatIf aerodrome flights trials
Admits Audit (aerodrome ∷ flights ∷ plan ∷ []) = AdmitsAudit aerodrome flights plan
Admits command contents = λ text answer. ⊥

-- in how many puts it prints a text over these contents: `replay` and `effort` in one for each answer, the others in
-- one
abbrev pub puts_of : Command → List (List ℕ) → ℕ
puts_of Replay (aerodrome ∷ flights ∷ events ∷ []) = replay_puts events
puts_of Effort (aerodrome ∷ flights ∷ events ∷ []) = effort_puts events
puts_of command contents = 1

-- what may stand of its text after so many puts
abbrev pub Stands : Command → List (List ℕ) → ℕ → List ℕ → Type 0
Stands Replay (aerodrome ∷ flights ∷ events ∷ []) = StandsReplay aerodrome flights events
Stands Effort (aerodrome ∷ flights ∷ events ∷ []) = StandsEffort aerodrome flights events
Stands command contents = StandsAtOnce (Admits command contents)

-- Over these contents of its files a command is refused, for this cause.
abbrev pub Refuses : Command → List (List ℕ) → FilesFault → Type 0
Refuses Plan (aerodrome ∷ flights ∷ []) = RefusesPlan aerodrome flights
Refuses Replay (aerodrome ∷ flights ∷ events ∷ []) = RefusesReplay aerodrome flights events
Refuses Certify (aerodrome ∷ flights ∷ []) = RefusesPlan aerodrome flights
Refuses Check (aerodrome ∷ flights ∷ certificate ∷ []) = RefusesCheck aerodrome flights certificate
Refuses Effort (aerodrome ∷ flights ∷ events ∷ []) = RefusesReplay aerodrome flights events
Refuses First (aerodrome ∷ flights ∷ []) = RefusesPlan aerodrome flights
Refuses WhatIf (aerodrome ∷ flights ∷ trials ∷ []) = RefusesWhatIf aerodrome flights trials
Refuses Audit (aerodrome ∷ flights ∷ plan ∷ []) = RefusesAudit aerodrome flights plan
Refuses command contents = λ refusal. ⊥

-- how many bytes it prints at most, by how many flights, events, trials and landing lines these contents hold
abbrev pub text_bound : Command → List (List ℕ) → ℕ
text_bound Plan (aerodrome ∷ flights ∷ []) = block_bound (flight_count flights)
text_bound Replay (aerodrome ∷ flights ∷ events ∷ []) = replay_bound (flight_count flights) (event_count events)
text_bound Certify (aerodrome ∷ flights ∷ []) = certify_bound aerodrome flights
text_bound Check (aerodrome ∷ flights ∷ certificate ∷ []) = check_bound
text_bound Effort (aerodrome ∷ flights ∷ events ∷ []) = effort_bound (event_count events)
text_bound (Trial seed n k) [] = trial_bound
text_bound First (aerodrome ∷ flights ∷ []) = block_bound (flight_count flights)
text_bound WhatIf (aerodrome ∷ flights ∷ trials ∷ []) = outcomes_bound (trial_count trials)
text_bound Audit (aerodrome ∷ flights ∷ plan ∷ []) = audit_bound (flight_count flights) (line_count plan)
text_bound command contents = 0

-- each text that a command may begin to print has at most so many
abbrev pub TextsAreBoundedLaw : Type 0
TextsAreBoundedLaw = (command : Command) (contents : List (List ℕ)) (puts : ℕ) (text : List ℕ)
    → IsCommandInRange command → Stands command contents puts text → length text ≤ text_bound command contents
