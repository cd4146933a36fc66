-- What an opener of files shows, and what opening a file does to it.
use Rattle.std.specs.Prelude.{◌≡◌, ℕ, ◌+◌, Bool, false, List, [], take, Option, Some, None, IsTrue}

-- An opener as contracts see it. `content` and `asked` say something only where `tells` is true.
pub record OpenerState : Type 0 where
  pub tells : Bool
  -- the content of each name that is there
  pub content : List ℕ → Option (List ℕ)
  -- the names asked for so far
  pub asked : List (List ℕ)

-- the files of the system: no contract can say what they hold
abbrev pub system_files : OpenerState
system_files = record { tells = false; content = λ _. None; asked = [] }

-- what each opening leaves, whatever it answers
pub record IsAfterOpen (old new : OpenerState) : Type 0 where
  pub tells : new.tells ≡ old.tells
  pub content : new.content ≡ old.content

-- a file of this name was opened, of which so much is known to be left
abbrev pub Opens : OpenerState → List ℕ → Option (List ℕ) → Type 0
Opens old name remaining = IsTrue old.tells → (bytes : List ℕ) × (old.content name ≡ Some bytes)
    × (remaining ≡ Some bytes)

-- the bytes of this name, or where there are more, one more than `most` of them
abbrev pub ReadsFront : OpenerState → List ℕ → ℕ → List ℕ → Type 0
ReadsFront old name most bytes = IsTrue old.tells → (all : List ℕ) × (old.content name ≡ Some all)
    × (bytes ≡ take (most + 1) all)
