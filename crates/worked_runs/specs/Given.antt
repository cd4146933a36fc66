-- What a run over given files does.
use Rattle.std.specs.Prelude.{[], ◌≡◌, ◌⊎◌, ℕ, ◌≤◌, List, length, String, Vec}
use Rattle.std.specs.declared.alloc.Global.{Global}
use Rattle.cps_outside.specs.MemoryFolder.{fresh_folder}
use Rattle.cps_outside.specs.MemorySink.{fresh_sink}
use Rattle.cps_top.specs.declared.commands.Command.{Command}
use Rattle.cps_top.specs.Commands.{Admits, Refuses}
use Rattle.endings.specs.Outside.{Outside}
use Rattle.cps_top.specs.Statuses.{AreThere, HasRoom, HoldsEach}
use Rattle.endings.specs.declared.ending.Answer.{Answer}
use Rattle.endings.specs.declared.ending.FilesFault.{FilesFault}
use Rattle.endings.specs.declared.ending.Ending.{Ending}
use Rattle.endings.specs.Lines.{answer_status, status_of, line_of}

-- these files, and room for so many bytes
abbrev pub given : List (String Global × Vec ℕ Global) → ℕ → Outside
given files room = record { folder = fresh_folder files []; out = fresh_sink room [] }

-- Over files that are there and taken, and with room for as many bytes as the command prints at most, the output is a
-- text that it may print and the status that of its answer, 0, 1 or 7, or memory was short. Files that are there and
-- refused give status 3, or memory was short.
pub record Answers (words : List (List ℕ)) (files : List (String Global × Vec ℕ Global)) (room status : ℕ)
    (output : List ℕ) : Type 0 where
  pub complete : (command : Command) (contents : List (List ℕ)) → AreThere words (given files room) command contents →
      ((refusal : FilesFault) → Refuses command contents refusal → ⊥) → HasRoom command contents (fresh_sink room []) →
      (status ≡ 8) ⊎ ((answer : Answer) × (status ≡ answer_status answer) × Admits command contents output answer)
  -- the same where the room is known to hold each text that it may begin
  pub held : (command : Command) (contents : List (List ℕ)) → AreThere words (given files room) command contents →
      ((refusal : FilesFault) → Refuses command contents refusal → ⊥) → HoldsEach command contents (fresh_sink room [])
      →
      (status ≡ 8) ⊎ ((answer : Answer) × (status ≡ answer_status answer) × Admits command contents output answer)
  pub refused : (command : Command) (contents : List (List ℕ)) (refusal : FilesFault)
      → AreThere words (given files room) command contents →
      Refuses command contents refusal → (status ≡ 3) ⊎ (status ≡ 8)

-- The run has an ending of this status, and where there is room for its line, this line is what the standard error
-- holds.
pub record SaysLine (room status : ℕ) (err : List ℕ) : Type 0 where
  pub ending : Ending
  pub status_is : status ≡ status_of ending
  pub line : length (line_of ending) ≤ room → err ≡ line_of ending
