-- What a command does that prints texts: what it writes, by its ending.
use Rattle.std.specs.Prelude.{◌≡◌, ◌⊎◌, ℕ, List, [], Result, Ok, Err}
use Rattle.cps_outside.specs.Puts.{Wrote, WrotePart, BreaksOff, StopsShort}
use Rattle.cps_outside.specs.SinkState.{SinkState}
use Rattle.endings.specs.declared.ending.Answer.{Answer}
use Rattle.endings.specs.declared.ending.Ending.{Ending}
use Rattle.endings.specs.declared.ending.Ending.TheVariants.{Answered, Refused, NotWritten, NoMemory}
use Rattle.endings.specs.declared.ending.FilesFault.{FilesFault}
use Rattle.openings.specs.declared.report.Report.{Report}

-- A text that P admits was written whole, in so many puts.
pub record Prints (puts : ℕ) (P : List ℕ → Type 0) (old new : SinkState) : Type 0 where
  pub text : List ℕ
  pub admitted : P text
  pub written : Wrote puts old new text

-- What a command does, by its ending. With an answer it has printed a text that Admits says, in so many puts. Where a
-- put failed or memory ran out, what Stands says of the puts before stands whole. It refuses for the causes of Refuses.
abbrev pub FollowsBy : ℕ → (List ℕ → Answer → Type 0) → (ℕ → List ℕ → Type 0) → (FilesFault → Type 0) → SinkState
    → SinkState → Ending → Type 0
FollowsBy puts Admits Stands Refuses old new (Answered answer) = Prints puts (λ text. Admits text answer) old new
FollowsBy puts Admits Stands Refuses old new (Refused refusal) = Refuses refusal × (new ≡ old)
FollowsBy puts Admits Stands Refuses old new NotWritten = BreaksOff Stands old new
FollowsBy puts Admits Stands Refuses old new NoMemory = (new ≡ old) ⊎ StopsShort puts Stands old new
FollowsBy puts Admits Stands Refuses old new ending = ⊥

-- it may be printed whole, with some answer
abbrev pub HasAnswer : (List ℕ → Answer → Type 0) → List ℕ → Type 0
HasAnswer Admits text = (answer : Answer) × Admits text answer

-- what stands after so many puts of a text that is put at once
abbrev pub StandsAtOnce : (List ℕ → Answer → Type 0) → ℕ → List ℕ → Type 0
StandsAtOnce Admits puts text = (puts ≡ 1) × HasAnswer Admits text

-- The same of a command that prints its text in one put. Where memory runs out it has printed nothing.
abbrev pub FollowsAtOnce : (List ℕ → Answer → Type 0) → (FilesFault → Type 0) → SinkState → SinkState → Ending → Type 0
FollowsAtOnce Admits = FollowsBy 1 Admits (StandsAtOnce Admits)

-- A command that came to this report, or ended so without one, ends so: it answers with the report's text written
-- whole, or wrote a part of it, and in one put.
abbrev pub Finishes : Result Report Ending → SinkState → SinkState → Ending → Type 0
Finishes (Err early) old new ending = (ending ≡ early) × (new ≡ old)
Finishes (Ok report) old new (Answered answer) = (answer ≡ report.answer) × Wrote 1 old new report.text.items
Finishes (Ok report) old new NotWritten = WrotePart 0 old new [] report.text.items
Finishes (Ok report) old new ending = ⊥
