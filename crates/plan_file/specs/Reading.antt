-- The plan that a text is, or its first line that is not of its form.
use Rattle.std.specs.Prelude.{◌≡◌, ℕ, ◌+◌, ◌≤◌, List, [], ◌∷◌, ◌++◌, ◌==◌, nat_lt, length, codes, bytes_eq, Option}
use Rattle.std.specs.Prelude.{Some, None, Result, Ok, Err, if◌then◌else◌}
use Rattle.cps_base.specs.Answers.{◌>>=◌}
use Rattle.cps_base.specs.Limits.{most_flights}
use Rattle.landing_rules.specs.declared.objective.Objective.{Objective}
use Rattle.landing_rules.specs.Text.{ShownLanding}
use Rattle.plan_file.specs.declared.landing.Landing.{Landing}
use Rattle.plan_file.specs.Shown.{shown_of}
use Rattle.plan_file.specs.declared.plan.PlanFault.{PlanFault}
use Rattle.plan_file.specs.declared.plan.PlanFault.TheVariants as fault
use Rattle.plan_file.specs.declared.plan.PlanText.{PlanText}
use Rattle.plan_file.specs.declared.plan.PlanText.TheVariants as said
use Rattle.texts.specs.Parts.{parts}
use Rattle.plan_file.specs.Lines.{head_in, landing_in}

abbrev pub or_fault : {A : Type 0} → ℕ → Option A → Result A PlanFault
or_fault n None = Err (fault.Line n)
or_fault n (Some x) = Ok x

-- the landing of line n; the lines from 502 on, behind the head and 500 landings, are too many
unfoldable pub line_in : ℕ → List ℕ → Result ShownLanding PlanFault
line_in n line = if nat_lt (most_flights + 1) n then Err (fault.Line n) else or_fault n (landing_in line)

-- the landings before and from line n on. Behind the last line feed nothing stands
unfoldable pub lines_in : ℕ → List ShownLanding → List ℕ → List (List ℕ) → Result (List ShownLanding) PlanFault
lines_in n before line [] = if length line == 0 then Ok before else Err (fault.Line n)
lines_in n before line (next ∷ rest) = line_in n line >>= (λ l. lines_in (n + 1) (before ++ l ∷ []) next rest)

abbrev pub body_lines : List (List ℕ) → Result (List ShownLanding) PlanFault
body_lines [] = Err (fault.Line 1)
body_lines (line ∷ rest) = lines_in 2 [] line rest

abbrev pub plan_with : Objective × ℕ → List ShownLanding → Result PlanText PlanFault
plan_with head lines = Ok (said.Block (record { objective = head.0; value = head.1; lines = lines }))

-- behind the first line of a plan: its landing lines
abbrev pub plan_behind : Option (Objective × ℕ) → List (List ℕ) → Result PlanText PlanFault
plan_behind None rest = Err (fault.Line 1)
plan_behind (Some head) rest = body_lines rest >>= plan_with head

-- behind the line that there is no plan: nothing more
abbrev pub nothing_behind : List (List ℕ) → Result PlanText PlanFault
nothing_behind [] = Err (fault.Line 1)
nothing_behind (line ∷ []) = if length line == 0 then Ok said.Nothing else Err (fault.Line 2)
nothing_behind (line ∷ next ∷ rest) = Err (fault.Line 2)

unfoldable pub plan_by : List (List ℕ) → Result PlanText PlanFault
plan_by [] = Err (fault.Line 1)
plan_by (line ∷ rest) = if bytes_eq line (codes "infeasible") then nothing_behind rest
    else plan_behind (head_in line) rest

-- the plan that a text is
unfoldable pub plan_of : List ℕ → Result PlanText PlanFault
plan_of bytes = plan_by (parts 10 bytes)

-- memory ran out
abbrev pub memory_fault : PlanFault
memory_fault = fault.Memory

-- the landing of a line, which takes no memory
abbrev pub GivesLanding : Result Landing PlanFault → Result ShownLanding PlanFault → Type 0
GivesLanding (Ok l) read = read ≡ Ok (shown_of l)
GivesLanding (Err e) read = read ≡ Err e

-- a plan of at most 500 landings
abbrev pub HasFewLines : PlanText → Type 0
HasFewLines said.Nothing = Unit {0}
HasFewLines (said.Block b) = length b.lines ≤ most_flights
