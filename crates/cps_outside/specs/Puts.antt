-- What a text leaves of a sink that is put piece by piece.
use Rattle.std.specs.Prelude.{◌≡◌, ◌⊎◌, ℕ, ◌+◌, ◌<◌, ◌≤◌, List, [], ◌++◌}
use Rattle.cps_outside.specs.Causes.{Rose}
use Rattle.cps_outside.specs.SinkState.{SinkState, CountsPuts, Grows, GrowsBehind, LacksRoom, LeavesRoom}

-- a text was written whole, in so many puts
pub record Wrote (puts : ℕ) (old new : SinkState) (text : List ℕ) : Type 0 where
  pub tells : new.tells ≡ old.tells
  pub sure : new.sure ≡ old.sure
  pub faults : old.faults ≤ new.faults
  pub grew : Grows old new text
  pub left : LeavesRoom old new text
  pub counted : CountsPuts puts old new

-- so many puts wrote a text whole, and one more failed, which wrote a part of its own; where the sink is sure there was
-- no room for both
pub record WrotePart (puts : ℕ) (old new : SinkState) (whole last : List ℕ) : Type 0 where
  pub tells : new.tells ≡ old.tells
  pub grew : GrowsBehind old new whole last
  pub failed : Rose old.faults new.faults
  pub lacked : LacksRoom old (whole ++ last)
  pub counted : CountsPuts (puts + 1) old new

-- A put failed. Stands says which text may stand after so many puts, one or more. That of the puts before it stands
-- whole, or there was none.
pub record BreaksOff (Stands : ℕ → List ℕ → Type 0) (old new : SinkState) : Type 0 where
  pub puts : ℕ
  pub whole : List ℕ
  pub last : List ℕ
  pub stood : ((puts ≡ 0) × (whole ≡ [])) ⊎ Stands puts whole
  pub begun : Stands (puts + 1) (whole ++ last)
  pub written : WrotePart puts old new whole last

-- It stopped between two of so many puts, and the text of those before stands whole.
pub record StopsShort (most : ℕ) (Stands : ℕ → List ℕ → Type 0) (old new : SinkState) : Type 0 where
  pub puts : ℕ
  pub text : List ℕ
  pub few : puts < most
  pub stood : Stands puts text
  pub written : Wrote puts old new text
