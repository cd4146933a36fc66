-- Which outputs a worked example shows.
use Rattle.std.specs.Prelude.{◌≡◌, ◌⊎◌, ℕ, List, ◌++◌, Option, Some, None, option_copied}
use Rattle.worked_runs.specs.declared.output.Outputs.{Outputs}

-- an output begins with these bytes
abbrev pub BeginsWith : List ℕ → List ℕ → Type 0
BeginsWith head written = (rest : List ℕ) × (written ≡ head ++ rest)

-- an output ends with these bytes
abbrev pub EndsWith : List ℕ → List ℕ → Type 0
EndsWith tail written = (before : List ℕ) × (written ≡ before ++ tail)

-- an output is the one of these bytes, or the other where there is another
abbrev pub IsOneOf : List ℕ → Option (List ℕ) → List ℕ → Type 0
IsOneOf one None written = written ≡ one
IsOneOf one (Some other) written = (written ≡ other) ⊎ (written ≡ one)

abbrev pub IsShown : Option (List ℕ) → Option (List ℕ) → Outputs → List ℕ → Type 0
IsShown (Some head) _ outputs written = BeginsWith head written
IsShown None (Some tail) outputs written = EndsWith tail written
IsShown None None outputs written = IsOneOf outputs.whole.now (option_copied outputs.other) written

-- an output is one of those that are shown: where they say how it begins, it begins so; else where they say how it
-- ends, it ends so; else it is the whole output, or the other one
abbrev pub IsOutputOf : Outputs → List ℕ → Type 0
IsOutputOf outputs written = IsShown (option_copied outputs.begins) (option_copied outputs.ends) outputs written
