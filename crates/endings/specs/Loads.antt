-- What the loads of files leave, and how they may end early.
use Rattle.std.specs.Prelude.{◌≡◌, ℕ, ◌+◌, ◌-◌, ◌<◌, ◌≤◌, List, [], ◌∷◌, ◌++◌, length, take, map, Some, None, IsTrue}
use Rattle.std.specs.List.{AllByRecursion}
use Rattle.cps_base.specs.Limits.{most_bytes}
use Rattle.cps_outside.specs.Causes.{RoseBy, Rose}
use Rattle.cps_outside.specs.FolderState.{FolderState}
use Rattle.endings.specs.declared.ending.Ending.{Ending}
use Rattle.endings.specs.declared.ending.Ending.TheVariants.{NotLoaded, TooLong, NoMemory}

-- The files of these names were loaded, one after another. They hold these contents.
pub record Loads (old new : FolderState) (names contents : List (List ℕ)) : Type 0 where
  pub tells : new.tells ≡ old.tells
  pub content : new.content ≡ old.content
  pub sure : new.sure ≡ old.sure
  pub faults : old.faults ≤ new.faults
  pub taken : old.taken ≤ new.taken
  pub asked : IsTrue old.tells → new.asked ≡ old.asked ++ names
  pub told : IsTrue old.tells → map old.content names ≡ map Some contents
  pub count : length contents ≡ length names
  pub bounded : AllByRecursion (λ bytes. length bytes ≤ most_bytes) contents

-- The files before this one were loaded, and its load was the last.
pub record StopsAt (old new : FolderState) (names : List (List ℕ)) (place : ℕ) : Type 0 where
  pub first : 1 ≤ place
  pub inside : place ≤ length names
  pub contents : List (List ℕ)
  pub earlier : IsTrue old.tells → map old.content (take (place - 1) names) ≡ map Some contents
  pub bounded : AllByRecursion (λ bytes. length bytes ≤ most_bytes) contents
  pub asked : IsTrue old.tells → new.asked ≡ old.asked ++ take place names

-- where the folder tells its contents and is sure, no file has the name of this place
abbrev pub IsAbsentAt : FolderState → List (List ℕ) → ℕ → Type 0
IsAbsentAt old names place = IsTrue old.tells → IsTrue old.sure →
    (name : List ℕ) × (take place names ≡ take (place - 1) names ++ name ∷ []) × (old.content name ≡ None)

-- the load of this place failed
pub record FailsAt (old new : FolderState) (names : List (List ℕ)) (place : ℕ) : Type 0 where
  pub stops : StopsAt old new names place
  pub cause : Rose old.faults new.faults
  pub absent : IsAbsentAt old names place

-- the file of this place is too long
pub record IsTooLongAt (old new : FolderState) (names : List (List ℕ)) (place : ℕ) : Type 0 where
  pub stops : StopsAt old new names place
  pub cause : RoseBy (most_bytes + 1) old.taken new.taken
  pub told : IsTrue old.tells → (name : List ℕ) × (bytes : List ℕ)
      × (take place names ≡ take (place - 1) names ++ name ∷ []) × (old.content name ≡ Some bytes)
      × (most_bytes < length bytes)

-- some of the files were asked for, the first of them first
abbrev pub AsksForSome : FolderState → FolderState → List (List ℕ) → Type 0
AsksForSome old new names = IsTrue old.tells → (some : List (List ℕ)) × (rest : List (List ℕ))
    × (some ++ rest ≡ names) × (new.asked ≡ old.asked ++ some)

-- a load failed, and no later file than these was asked for
pub record FailsWithin (old new : FolderState) (names : List (List ℕ)) : Type 0 where
  pub cause : Rose old.faults new.faults
  pub asked : AsksForSome old new names

-- how the loads of these files may end early
abbrev pub LoadsEnd : FolderState → FolderState → List (List ℕ) → Ending → Type 0
LoadsEnd old new names (NotLoaded place) = FailsAt old new names place
LoadsEnd old new names (TooLong place) = IsTooLongAt old new names place
LoadsEnd old new names NoMemory = AsksForSome old new names
LoadsEnd old new names ending = ⊥
