-- What each status of the program says.
use Rattle.std.specs.Prelude.{[], ◌∷◌, ◌++◌, ◌<◌, ◌≡◌, ◌⊎◌, ◌↔◌, ℕ, ◌+◌, ◌≢◌, ◌≤◌, List, length, map, Some, None}
use Rattle.std.specs.Prelude.{IsTrue}
use Rattle.std.specs.List.{AllByRecursion}
use Rattle.cps_base.specs.Limits.{most_bytes}
use Rattle.cps_outside.specs.Causes.{RoseBy, Rose}
use Rattle.cps_outside.specs.SinkState.{SinkState}
use Rattle.cps_top.specs.declared.commands.Command.{Command}
use Rattle.endings.specs.declared.ending.Answer.{Answer}
use Rattle.endings.specs.declared.ending.FilesFault.{FilesFault}
use Rattle.cps_top.specs.Commands.{command_of, files_of, puts_of, text_bound, Admits, Refuses, Stands}
use Rattle.endings.specs.Lines.{answer_status}
use Rattle.endings.specs.Loads.{FailsAt, IsTooLongAt, AsksForSome, FailsWithin}
use Rattle.openings.specs.Follows.{Prints}
use Rattle.endings.specs.Outside.{Outside}

-- when each status comes
pub record Causes (words : List (List ℕ)) (old new : Outside) (status : ℕ) : Type 0 where
  pub known : status ≤ 8
  pub usage : (status ≡ 2) ↔ (command_of words ≡ None)
  pub failed : status ≡ 4 → Rose old.folder.faults new.folder.faults
  pub unwritten : status ≡ 5 → Rose old.out.faults new.out.faults
  pub too_long : status ≡ 6 → RoseBy (most_bytes + 1) old.folder.taken new.folder.taken
  -- `out` is as it was
  pub nothing_written : (status ≡ 2) ⊎ (status ≡ 3) ⊎ (status ≡ 4) ⊎ (status ≡ 6) → new.out ≡ old.out

-- which files were asked for, where the folder tells
pub record Asks (words : List (List ℕ)) (old new : Outside) (status : ℕ) : Type 0 where
  -- none where the words fit no command
  pub none : status ≡ 2 → new.folder ≡ old.folder
  -- the first of them first
  pub some : command_of words ≢ None → AsksForSome old.folder new.folder (files_of words)
  pub all : (status ≡ 0) ⊎ (status ≡ 1) ⊎ (status ≡ 3) ⊎ (status ≡ 5) ⊎ (status ≡ 7) → IsTrue old.folder.tells →
      new.folder.asked ≡ old.folder.asked ++ files_of words
  -- the last of them is the one whose load failed, or that is too long
  pub failed : status ≡ 4 → (place : ℕ) × FailsAt old.folder new.folder (files_of words) place
  pub too_long : status ≡ 6 → (place : ℕ) × IsTooLongAt old.folder new.folder (files_of words) place

-- a command's files are there, with these contents, and none is too long
pub record AreThere (words : List (List ℕ)) (old : Outside) (command : Command)
    (contents : List (List ℕ)) : Type 0 where
  pub named : command_of words ≡ Some command
  -- with no file it asks for no folder that tells
  pub tells : files_of words ≢ [] → IsTrue old.folder.tells
  pub told : map old.folder.content (files_of words) ≡ map Some contents
  pub bounded : AllByRecursion (λ bytes. length bytes ≤ most_bytes) contents

-- a text was written whole, with the status of its answer, or memory was short
abbrev pub IsComplete : Command → List (List ℕ) → Outside → Outside → ℕ → Type 0
IsComplete command contents old new status = (status ≡ 8) ⊎ ((answer : Answer) × (status ≡ answer_status answer)
    × Prints (puts_of command contents) (λ text. Admits command contents text answer) old.out new.out)

-- Over files that are taken, and with no fault, the text is written whole, or memory was short.
pub record Completes (words : List (List ℕ)) (old new : Outside) (status : ℕ) : Type 0 where
  pub complete : (command : Command) (contents : List (List ℕ)) → AreThere words old command contents →
      ((refusal : FilesFault) → Refuses command contents refusal → ⊥) →
      (Rose old.folder.faults new.folder.faults → ⊥) → (Rose old.out.faults new.out.faults → ⊥) →
      IsComplete command contents old new status

-- there is room for as many bytes as the command prints at most over these contents
abbrev pub HasRoom : Command → List (List ℕ) → SinkState → Type 0
HasRoom command contents sink = text_bound command contents ≤ sink.room

-- there is room for every text that the command may begin to print over these contents
abbrev pub HoldsEach : Command → List (List ℕ) → SinkState → Type 0
HoldsEach command contents sink = (puts : ℕ) (text : List ℕ) → Stands command contents puts text
    → length text ≤ sink.room

-- From a folder that is sure: over files that are taken, and into a sink that is sure and has room, the text is written
-- whole, or memory was short. Files that are refused give status 3, or memory was short.
pub record IsSure (words : List (List ℕ)) (old new : Outside) (status : ℕ) : Type 0 where
  pub complete : (command : Command) (contents : List (List ℕ)) → AreThere words old command contents
      → IsTrue old.folder.sure →
      ((refusal : FilesFault) → Refuses command contents refusal → ⊥) →
      IsTrue old.out.sure → HasRoom command contents old.out → IsComplete command contents old new status
  -- the same where the room is known to hold each of these texts
  pub held : (command : Command) (contents : List (List ℕ)) → AreThere words old command contents →
      IsTrue old.folder.sure → ((refusal : FilesFault) → Refuses command contents refusal → ⊥) →
      IsTrue old.out.sure → HoldsEach command contents old.out → IsComplete command contents old new status
  pub refused : (command : Command) (contents : List (List ℕ)) (refusal : FilesFault)
      → AreThere words old command contents → IsTrue old.folder.sure →
      Refuses command contents refusal → (status ≡ 3) ⊎ (status ≡ 8)

-- Files that are refused give status 3, unless a load failed, and one that is too long gives 6, unless its load or an
-- earlier one failed; or memory was short.
pub record IsExact (words : List (List ℕ)) (old new : Outside) (status : ℕ) : Type 0 where
  pub refused : (command : Command) (contents : List (List ℕ)) (refusal : FilesFault)
      → AreThere words old command contents →
      Refuses command contents refusal → (status ≡ 3) ⊎ (status ≡ 8)
      ⊎ ((status ≡ 4) × Rose old.folder.faults new.folder.faults)
  pub too_long : (command : Command) (before after : List (List ℕ)) (name bytes : List ℕ)
      → command_of words ≡ Some command →
      IsTrue old.folder.tells → files_of words ≡ (before ++ name ∷ []) ++ after →
      old.folder.content name ≡ Some bytes → most_bytes < length bytes →
      (status ≡ 6) ⊎ (status ≡ 8) ⊎ ((status ≡ 4) × FailsWithin old.folder new.folder (before ++ name ∷ []))
