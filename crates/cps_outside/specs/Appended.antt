-- What a writer holds after a write that failed in mid-stream.
use Rattle.std.specs.Prelude.{◌≡◌, ℕ, List, ◌++◌, Option}
use Rattle.std.specs.Io.KnownBytes.{Appends}

-- known bytes grew by the first of these bytes, by all, some or none of them
abbrev pub AppendsFront : Option (List ℕ) → Option (List ℕ) → List ℕ → Type 0
AppendsFront old new bytes = (first : List ℕ) × (rest : List ℕ) × (first ++ rest ≡ bytes) × Appends old new first
