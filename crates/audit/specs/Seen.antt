-- Callsigns that were seen.
use Rattle.std.specs.Prelude.{ℕ, List, Bool}
use Rattle.std.specs.Str.{bytes_eq}
use Rattle.std.specs.List.{list_any}

-- whether c is among them
abbrev pub has_name : List (List ℕ) → List ℕ → Bool
has_name seen c = list_any (λ k. bytes_eq k c) seen
