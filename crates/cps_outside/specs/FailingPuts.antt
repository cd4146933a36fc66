-- Which puts fail in memory, and after how many bytes.
use Rattle.std.specs.Prelude.{ℕ, List, [], ◌∷◌, Option, Some, None, ◌==◌, if◌then◌else◌}

-- how many bytes the put of this number takes before it fails: what the first pair of this number says
abbrev pub bytes_of_failing : List (ℕ × ℕ) → ℕ → Option ℕ
bytes_of_failing [] put = None
bytes_of_failing (entry ∷ rest) put = if entry.0 == put then Some entry.1 else bytes_of_failing rest put
