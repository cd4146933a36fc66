-- The statuses, and the lines on the standard error. A line is words: what is wrong with a file is said beside its fault.
use Rattle.std.specs.Prelude.{⊤, ◌≡◌, ◌⊎◌, ℕ, List, [], ◌∷◌, ◌++◌, codes, decimal}
use Rattle.cps_outside.specs.Causes.{Rose}
use Rattle.cps_outside.specs.SinkState.{SinkState, Grows, GrowsByPart, LacksRoom}
use Rattle.aerodrome_file.specs.Words.{aerodrome_words}
use Rattle.flight_file.specs.Words.{flight_words}
use Rattle.event_log.specs.Words.{event_words}
use Rattle.trial_file.specs.Words.{trial_words}
use Rattle.plan_file.specs.Words.{plan_words}
use Rattle.certificate.specs.Words.{certificate_words}
use Rattle.situations.specs.declared.opening_refusal.OpeningFault.{OpeningFault}
use Rattle.situations.specs.declared.opening_refusal.OpeningFault.TheVariants as opening
use Rattle.endings.specs.declared.ending.Answer.{Answer}
use Rattle.endings.specs.declared.ending.Answer.TheVariants.{Scheduled, Infeasible, Certified, Accepted, Rejected}
use Rattle.endings.specs.declared.ending.Answer.TheVariants.{Tried, Clean, Broken, Claimed}
use Rattle.endings.specs.declared.ending.FilesFault.{FilesFault}
use Rattle.endings.specs.declared.ending.FilesFault.TheVariants.{Aerodrome, Flights, Events, Certificate, Trials, Plan}
use Rattle.endings.specs.declared.ending.FilesFault.TheVariants.{Opening}
use Rattle.endings.specs.declared.ending.Ending.{Ending}
use Rattle.endings.specs.declared.ending.Ending.TheVariants.{Answered, Misused, Refused, NotLoaded, NotWritten}
use Rattle.endings.specs.declared.ending.Ending.TheVariants.{TooLong, NoMemory}

abbrev pub answer_status : Answer → ℕ
answer_status Scheduled = 0
answer_status Infeasible = 1
answer_status Certified = 0
answer_status Accepted = 0
answer_status Rejected = 7
answer_status Tried = 0
answer_status Clean = 0
answer_status Broken = 7
answer_status Claimed = 1

abbrev pub status_of : Ending → ℕ
status_of (Answered answer) = answer_status answer
status_of Misused = 2
status_of (Refused refusal) = 3
status_of (NotLoaded place) = 4
status_of NotWritten = 5
status_of (TooLong place) = 6
status_of NoMemory = 8

-- these words, each behind a blank
abbrev pub spaced : List (List ℕ) → List ℕ
spaced [] = []
spaced (word ∷ rest) = (codes " " ++ word) ++ spaced rest

-- the program's name, these words, a blank between any two, and the end of the line
abbrev pub line_text : List (List ℕ) → List ℕ
line_text words = codes "cps:" ++ (spaced words ++ codes "\n")

abbrev pub opening_words : OpeningFault → List (List ℕ)
opening_words (opening.UnknownFrozen i) = codes "opening: unknown-frozen" ∷ decimal i ∷ []
opening_words (opening.UnknownPassed i) = codes "opening: unknown-passed" ∷ decimal i ∷ []
opening_words (opening.TooManyWaiting n) = codes "too many waiting" ∷ decimal n ∷ []
opening_words (opening.FrozenClosed i) = codes "opening: frozen-closed" ∷ decimal i ∷ []
opening_words (opening.FrozenSeparation i j) =
    codes "opening: frozen-separation" ∷ decimal i ∷ decimal j ∷ []
opening_words (opening.FrozenPrecedence i callsign) =
    codes "opening: frozen-precedence" ∷ decimal i ∷ callsign ∷ []

abbrev pub refusal_words : FilesFault → List (List ℕ)
refusal_words (Aerodrome fault) = codes "aerodrome:" ∷ aerodrome_words fault
refusal_words (Flights fault) = codes "flights:" ∷ flight_words fault
refusal_words (Events fault) = codes "events:" ∷ event_words fault
refusal_words (Certificate fault) = codes "certificate:" ∷ certificate_words fault
refusal_words (Opening fault) = opening_words fault
refusal_words (Trials fault) = codes "trials:" ∷ trial_words fault
refusal_words (Plan fault) = codes "plan:" ∷ plan_words fault

-- the line on the standard error, or nothing
abbrev pub line_of : Ending → List ℕ
line_of (Answered answer) = []
line_of Misused = line_text (codes "usage" ∷ [])
line_of (Refused refusal) = line_text (refusal_words refusal)
line_of (NotLoaded place) = line_text (codes "file" ∷ (decimal place ++ codes ":") ∷ codes "failed" ∷ [])
line_of NotWritten = line_text (codes "write failed" ∷ [])
line_of (TooLong place) = line_text (codes "file" ∷ (decimal place ++ codes ":") ∷ codes "too long" ∷ [])
line_of NoMemory = line_text (codes "no memory" ∷ [])

-- where the ending is an answer nothing is put
abbrev pub KeepsQuiet : Ending → SinkState → SinkState → Type 0
KeepsQuiet (Answered answer) old new = new ≡ old
KeepsQuiet ending old new = ⊤

-- The line was written, whole unless a fault was counted, and then, where the sink is sure, for want of room.
pub record Says (old new : SinkState) (line : List ℕ) : Type 0 where
  pub tells : new.tells ≡ old.tells
  pub part : GrowsByPart old new line
  pub whole : Grows old new line ⊎ (Rose old.faults new.faults × LacksRoom old line)
