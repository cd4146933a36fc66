-- What a run of the program does: its ending, the cause of it, and what it wrote.
use Rattle.std.specs.Prelude.{◌≡◌, ◌⊎◌, ℕ, List, Some, None}
use Rattle.cps_outside.specs.FolderState.{FolderState}
use Rattle.cps_outside.specs.SinkState.{SinkState}
use Rattle.cps_top.specs.declared.commands.Command.{Command}
use Rattle.endings.specs.Lines.{KeepsQuiet, Says, status_of, line_of}
use Rattle.endings.specs.Loads.{Loads, FailsAt, IsTooLongAt, AsksForSome}
use Rattle.endings.specs.Outside.{Outside}
use Rattle.endings.specs.declared.ending.Ending.{Ending}
use Rattle.endings.specs.declared.ending.Ending.TheVariants.{Misused, NotLoaded, TooLong, NoMemory}
use Rattle.openings.specs.Follows.{FollowsBy}
use Rattle.cps_top.specs.Commands.{command_of, files_of, puts_of, Admits, Refuses, Stands}

-- What a command does over the contents of its files, with this ending.
abbrev pub Follows : Command → List (List ℕ) → SinkState → SinkState → Ending → Type 0
Follows command contents =
    FollowsBy (puts_of command contents) (Admits command contents) (Stands command contents) (Refuses command contents)

-- The words name a command, whose files were loaded and which then ran.
pub record Serves (words : List (List ℕ)) (old new : Outside) (ending : Ending) : Type 0 where
  pub command : Command
  pub named : command_of words ≡ Some command
  pub contents : List (List ℕ)
  pub loads : Loads old.folder new.folder (files_of words) contents
  pub follows : Follows command contents old.out new.out ending

-- The words name a command, the loads of whose files end so, and `out` is as it was.
pub record StopsLoading (words : List (List ℕ)) (old new : Outside) (P : FolderState → FolderState
    → List (List ℕ) → Type 0) : Type 0 where
  pub command : Command
  pub named : command_of words ≡ Some command
  pub loads : P old.folder new.folder (files_of words)
  pub out : new.out ≡ old.out

-- a run over these words ends so
abbrev pub Ends : List (List ℕ) → Outside → Outside → Ending → Type 0
Ends words old new Misused = (command_of words ≡ None) × (new ≡ old)
Ends words old new (NotLoaded place) = StopsLoading words old new (λ a b names. FailsAt a b names place)
Ends words old new (TooLong place) = StopsLoading words old new (λ a b names. IsTooLongAt a b names place)
Ends words old new NoMemory = StopsLoading words old new AsksForSome ⊎ Serves words old new NoMemory
Ends words old new ending = Serves words old new ending

-- A run over these words answers this status: it ended so, for this cause, and said so; of an answer it put nothing.
pub record RunsTo (words : List (List ℕ)) (old new : Outside) (old_err new_err : SinkState) (status : ℕ) : Type 0 where
  pub ending : Ending
  pub status_is : status ≡ status_of ending
  pub ends : Ends words old new ending
  pub says : Says old_err new_err (line_of ending)
  pub quiet : KeepsQuiet ending old_err new_err
